mod WalkIds
pub mod CallIds
