pub mod TableLaws
pub mod RowLaws
pub mod SumLaws
pub mod PairLaws
pub mod LogarithmLaws
pub mod RootLaws
pub mod Opened
