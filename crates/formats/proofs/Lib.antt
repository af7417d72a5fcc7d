pub mod WordLaws
pub mod ReadLaws
pub mod WriteLaws
pub mod RoundTripLaws
pub mod WorkedLaws
