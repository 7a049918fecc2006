pub mod TdTheorems
