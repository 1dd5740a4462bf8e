pub mod ById
