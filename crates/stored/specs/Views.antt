-- What a view shows of a component: the piece that it is. `Other` leaves open which prefix it is, or that it is none; it is no list.
use Rattle.std.specs.Prelude.{◌≡◌}
use Rattle.rules.specs.declared.NetworkPrefix.TheVariants.{Ipv4, Ipv6Offset}
use Rattle.stored.specs.declared.Piece.{Piece}
use Rattle.stored.specs.declared.Piece.TheVariants.{Prefix, Operators, NoRecord}
use Rattle.stored.specs.declared.View.{View}
use Rattle.stored.specs.declared.View.TheVariants.{List, Ipv4 as Short, Ipv6 as Long, Other}

abbrev pub NoList : Piece → Type 0
NoList (Prefix t p) = Unit {0}
NoList (Operators t start count) = ⊥
NoList NoRecord = Unit {0}

abbrev pub Shows : View → Piece → Type 0
Shows (List t start count) p = p ≡ Operators t start count
Shows (Short t len a) p = p ≡ Prefix t (Ipv4 len a)
Shows (Long t len off h l) p = p ≡ Prefix t (Ipv6Offset len off h l)
Shows Other p = NoList p
