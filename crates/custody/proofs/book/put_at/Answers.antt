-- `put_at` meets its contract: the numbers of the places after a write are their numbers, written. Assumes nothing.
use Rattle.std.proofs.lemmas.List.{map-set}
use Rattle.rf233.specs.Place.{place_no}
use Rattle.custody.proofs.book.put_at.Goals as goal

pub returns-then-at-lt19 : goal.returns-then-at-lt19
returns-then-at-lt19 c = map-set place_no c.args.places c.args.buffer c.args.place
