pub mod LastValues
