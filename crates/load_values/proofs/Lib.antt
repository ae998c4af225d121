pub mod TakenValues
mod LastValues
