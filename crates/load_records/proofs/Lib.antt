mod SettledRecord
mod SurfaceRecord
mod MissingRecords
