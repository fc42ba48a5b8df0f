-- What other crates may know of a list, in one place: they cite these laws and never the text of the definitions.
-- one operator: the ways that it goes, what one that is taken is, and what it is refused by
pub use Rattle.lists.proofs.Operators.{operator_missing, operator_wide, operator_cut, operator_refused, operator_taken, Taken, taken, operator_refuses}
-- a list goes by the operator at its place: none, one too wide, a cut one, a refused one, the last, one more; what a list is refused by
pub use Rattle.lists.proofs.Equations.{list_missing, list_wide, list_cut, list_refused, list_stops, list_last, list_more, with_tally, list_refuses}
-- its operators go so too, in whatever reading
pub use Rattle.lists.proofs.Equations.{ops_missing, ops_last, ops_more}
-- an accepted list is a chain of operators: their number is its count, it has two octets or more for each, and ends within the octets
pub use Rattle.lists.proofs.Chains.{Chain, last, more, chain_list, chain_ops, list_chain, list_counts, list_ends, list_fits}
-- what is recorded: of none, of one, of a first one and others; as many, with their numbers; in the plain reading all as they stand
pub use Rattle.lists.proofs.Records.{recorded_none, recorded_one, recorded_first, recorded_length, recorded_numbers, recorded_counts, plain_recorded}
