pub mod PairLaws
pub mod SymbolLaws
pub mod WriteLaws
