-- What the book of custody is fed of what a line asks for.
use Rattle.std.specs.Prelude.{ℕ, cond, ltb}
use Rattle.custody.specs.Book.{Fed}
use Rattle.custody.specs.Book.Fed.{lends_transmit, lends_receive, completes, declines, resumes, other}
use Rattle.custody.specs.Claim.{fed}
use Rattle.scripted.specs.Asked.{Asked}
use Rattle.scripted.specs.Asked.Asked.{calls, makes, nothing}

-- a buffer's number as a byte: 255 for one past it, as there is no buffer of either number
abbrev pub in_byte : ℕ → ℕ
in_byte b = cond (ltb b 256) b 255

-- what the book looks at of a call, with the buffer's number as a byte (`same_entry` in proofs/SameEntry.antt: to the book it is the same)
abbrev pub shortened : Fed → Fed
shortened (lends_transmit b) = lends_transmit (in_byte b)
shortened (lends_receive b) = lends_receive (in_byte b)
shortened completes = completes
shortened declines = declines
shortened resumes = resumes
shortened other = other

-- what the book is fed; with a new driver it begins anew, and around the calls nothing is entered
unfoldable pub fed_by : Asked → Fed
fed_by (calls c) = shortened (fed c)
fed_by (makes l c) = other
fed_by nothing = other
