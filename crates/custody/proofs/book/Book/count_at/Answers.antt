-- `count_at` meets its contract: the iterator counts the places that pass the test, as the definition does. Assumes nothing.
use Rattle.std.proofs.Common.{eqb, ◌∙◌, rules, tests}
use Rattle.std.proofs.lemmas.Iterator.{YieldsList-from_slice}
use Rattle.std.proofs.lemmas.Iterator.Consumers.{YieldsList-from_filter, count_from_yields_List}
use Rattle.rf233.specs.Place.{place_no}
use Rattle.custody.proofs.BookLists.{filled_filter}
use Rattle.custody.proofs.book.Book.count_at.Goals as goal

pub returns : goal.returns
returns c =
    let l = c.args.self.places in
    let p = place_no c.args.place in
    count_from_yields_List c.filter.result _ c.count.ensures.ran
    (YieldsList-from_filter _ (λ x. eqb (place_no x) p) (YieldsList-from_slice l cc) c.filter.ensures.closure
    (λ x r q k. search (rules, tests)))
    ∙ filled_filter p l (search rules)
