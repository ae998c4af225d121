pub mod SurfaceBody
