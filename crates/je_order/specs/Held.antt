-- How a byte string is held in memory.
use Rattle.std.specs.Prelude.{ℕ, zero, suc, List, [], ◌∷◌, take}
use Rattle.je_order.specs.declared.octets.HeldOctets.{HeldOctets}
use Rattle.je_order.specs.declared.octets.HeldOctets.TheVariants.{Near, Far}

-- the first bytes of a byte string, with zeros behind a shorter one
abbrev pub padded_to : ℕ → List ℕ → List ℕ
padded_to zero bytes = []
padded_to (suc count) [] = 0 ∷ padded_to count []
padded_to (suc count) (byte ∷ bytes) = byte ∷ padded_to count bytes

-- the bytes that are held
abbrev pub octets_held : HeldOctets → List ℕ
octets_held (Near len bytes) = take len bytes
octets_held (Far bytes) = bytes.items

-- how many bytes are near
abbrev pub octets_near_len : HeldOctets → ℕ
octets_near_len (Near len bytes) = len
octets_near_len (Far bytes) = 0
