pub mod TokenLaws
pub mod NumberLaws
pub mod ReadingLaws
