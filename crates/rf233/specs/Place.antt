-- The places of a buffer (document 01, "The book of custody"): where the driver's record has it, in the book's numbers.
use Rattle.std.specs.Prelude.{ℕ, zero, suc, Bool, cond, List, [], ◌∷◌}
use Rattle.rf233.specs.Line.{line, names}
use Rattle.rf233.specs.Record.{slot_has, under_has, own_has, times}
use Rattle.rf233.specs.declared.driver.Buffers.{Buffers}
use Rattle.rf233.specs.declared.place.Place.{Place}
use Rattle.rf233.specs.declared.place.Place.TheVariants.{Client, Own, Transmit, Receive, Transfer}

-- with the client
abbrev pub client_place : ℕ
client_place = 0

-- an own buffer's own place
abbrev pub own_place : ℕ
own_place = 1

-- the transmit place
abbrev pub transmit_place : ℕ
transmit_place = 2

-- the receive place, which is the line
abbrev pub receive_place : ℕ
receive_place = 3

-- the transfer under way
abbrev pub transfer_place : ℕ
transfer_place = 4

-- the number of a place
abbrev pub place_no : Place → ℕ
place_no Client = client_place
place_no Own = own_place
place_no Transmit = transmit_place
place_no Receive = receive_place
place_no Transfer = transfer_place

-- the list with p in front where the test holds
abbrev pub when : Bool → ℕ → List ℕ → List ℕ
when t p l = cond t (p ∷ l) l

-- the list with p in front as often as the number says
abbrev pub copies : ℕ → ℕ → List ℕ → List ℕ
copies zero p l = l
copies (suc n) p l = p ∷ copies n p l

-- every place at which the record has buffer b, once for each time that it has it there
abbrev pub places_of : Buffers → ℕ → List ℕ
places_of r b =
    when (own_has r b) own_place (when (slot_has r.tx_buf b) transmit_place
    (copies (times b (names (line r))) receive_place (when (under_has r.under b) transfer_place [])))

-- the first of some places; with none the buffer is with the client
abbrev pub first_place : List ℕ → ℕ
first_place [] = client_place
first_place (p ∷ more) = p

-- the place of buffer b: of a record that has no buffer twice, as refusal 12 sees to, the first place is the only one
unfoldable pub place_of : Buffers → ℕ → ℕ
place_of r b = first_place (places_of r b)
