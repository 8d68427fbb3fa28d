pub mod AllValues
