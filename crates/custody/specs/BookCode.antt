-- The code's book of custody as a page of the definition. Its counts are a machine's: they are given modulo 2 ^ 64.
use Rattle.std.specs.Prelude.{List, map, ℕ, ◌%◌, ◌^◌}
use Rattle.rf233.specs.Place.{place_no}
use Rattle.rf233.specs.declared.place.Place.{Place}
use Rattle.custody.specs.Book.{Page, Fed}
use Rattle.custody.specs.Book.Fed.{lends_transmit, lends_receive, completes, declines, resumes, other}
use Rattle.custody.specs.Taken.{taken_kind, taken_write, taken_read}
use Rattle.custody.specs.declared.book.Book.{Book}
use Rattle.custody.specs.declared.book.Fed as code
use Rattle.custody.specs.declared.book.Fed.TheVariants.{LendsTransmit, LendsReceive, Completes, Other, Declines, Resumes}

-- a page with its counts modulo 2 ^ 64
unfoldable pub wrapped : Page → Page
wrapped k = record k { accepted = k.accepted % 2 ^ 64; handed = k.handed % 2 ^ 64; dropped = k.dropped % 2 ^ 64 }

-- the places by their numbers
abbrev pub numbers : List Place → List ℕ
numbers l = map place_no l

-- what a book of the code has, as a page
abbrev pub page_of : Book → Page
page_of b =
    wrapped (record {
      places = numbers b.places;
      kind = taken_kind b.under_way;
      write = taken_write b.under_way;
      read = taken_read b.under_way;
      waits = taken_kind b.waiting;
      accepted = b.accepted;
      handed = b.handed;
      dropped = b.dropped;
      fault = b.fault;
    })

-- a call of the code, as the book is fed it
abbrev pub fed_of : code.Fed → Fed
fed_of (LendsTransmit b) = lends_transmit b
fed_of (LendsReceive b) = lends_receive b
fed_of Completes = completes
fed_of Declines = declines
fed_of Resumes = resumes
fed_of Other = other
