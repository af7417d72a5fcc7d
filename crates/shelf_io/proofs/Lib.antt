pub mod OpeningLaws
pub mod RoomLaws
