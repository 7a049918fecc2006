pub mod GuestMemory
