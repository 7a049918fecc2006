pub mod InPlaceRow
