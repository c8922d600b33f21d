-- A set of states without one of them.
pub use Rattle.sets.proofs.WordLaws.{out_in, out_or, out_gone, out_less}
