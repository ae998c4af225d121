pub mod DetailsBySign
