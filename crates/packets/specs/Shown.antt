-- What a packet shows to a component, by the component's type: RFC 8955, 4.2.2; RFC 8956, 3; and where the words that lend the packet hold it.
use Rattle.std.specs.Prelude.{ℕ, zero, suc, ◌+◌, List, [], ◌∷◌, eqb, get_or}
use Rattle.ground.specs.Picks.{pick}
use Rattle.packets.specs.declared.Place.{Place}
use Rattle.packets.specs.Packets.{Field, absent, present, Pair, neither, both, Packet}

-- type 1 is the destination's prefix, 2 the source's
abbrev pub address_of : Packet → ℕ → ℕ
address_of p type = pick (eqb type 1) p.destination p.source

-- "An absent field never matches": there is no number that a list could be put to
abbrev pub known : Field → List ℕ
known absent = []
known (present n) = n ∷ []

abbrev pub former : Pair → List ℕ
former neither = []
former (both a b) = a ∷ []

abbrev pub latter : Pair → List ℕ
latter neither = []
latter (both a b) = b ∷ []

-- "either port"
abbrev pub either : Pair → List ℕ
either neither = []
either (both a b) = a ∷ b ∷ []

-- the numbers that a list of a type is put to, of which one will do: 3 protocol, 4 port, 5 destination port, 6 source port, 7 ICMP type, 8 ICMP code, 9 TCP
-- flags, 10 length, 11 DSCP, 12 fragment bits, 13 flow label. Presence alone decides: the protocol is not looked at before ports, ICMP fields or flags
unfoldable pub numbers_of : Packet → ℕ → List ℕ
numbers_of p type =
    pick (eqb type 3) (p.protocol ∷ [])
    (pick (eqb type 4) (either p.ports)
    (pick (eqb type 5) (latter p.ports)
    (pick (eqb type 6) (former p.ports)
    (pick (eqb type 7) (former p.icmp)
    (pick (eqb type 8) (latter p.icmp)
    (pick (eqb type 9) (known p.flags)
    (pick (eqb type 10) (p.length ∷ [])
    (pick (eqb type 11) (p.dscp ∷ [])
    (pick (eqb type 12) (p.fragment ∷ [])
    (pick (eqb type 13) (known p.label)
    []))))))))))

-- ---- where the words hold them

abbrev pub placed : ℕ → ℕ → ℕ → Place
placed flag from count = record { flag = flag; from = from; count = count }

-- by type: the word that is 0 where there are none, the word of the first, how many. What every packet has goes by the family, which is not 0
unfoldable pub place_of : ℕ → Place
place_of type =
    pick (eqb type 3) (placed 0 5 1)
    (pick (eqb type 4) (placed 9 10 2)
    (pick (eqb type 5) (placed 9 11 1)
    (pick (eqb type 6) (placed 9 10 1)
    (pick (eqb type 7) (placed 12 13 1)
    (pick (eqb type 8) (placed 12 14 1)
    (pick (eqb type 9) (placed 15 16 1)
    (pick (eqb type 10) (placed 0 6 1)
    (pick (eqb type 11) (placed 0 7 1)
    (pick (eqb type 12) (placed 0 8 1)
    (pick (eqb type 13) (placed 17 18 1)
    (placed 0 0 0)))))))))))

-- count numbers from a word on
unfoldable pub numbers_in : List ℕ → ℕ → ℕ → List ℕ
numbers_in ws from zero = []
numbers_in ws from (suc k) = get_or ws from 0 ∷ numbers_in ws (from + 1) k

abbrev pub shown_by : List ℕ → Place → List ℕ
shown_by ws x = pick (eqb (get_or ws x.flag 0) 0) [] (numbers_in ws x.from x.count)
