pub mod AbiLaws
