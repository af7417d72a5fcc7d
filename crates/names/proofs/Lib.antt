pub mod BytesLaws
pub mod PackageLaws
pub mod JsonLaws
pub mod KeyLaws
pub mod IntegerLaws
pub mod SignLaws
pub mod TypeLaws
pub mod WorkedLaws
