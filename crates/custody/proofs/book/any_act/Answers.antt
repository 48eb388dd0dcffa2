-- `any_act` meets its contract: the iterator's `any` is std's `list_any`, and so is the definition. Assumes nothing.
use Rattle.std.proofs.Common.{sym, ◌∙◌, rules, tests}
use Rattle.std.proofs.lemmas.Iterator.{YieldsList-from_slice}
use Rattle.std.proofs.lemmas.Iterator.Search.{any_from_yields_List}
use Rattle.custody.specs.Book.{is_act}
use Rattle.custody.proofs.BookLists.{acts_any}
use Rattle.custody.proofs.book.any_act.Goals as goal

pub returns : goal.returns
returns c =
    let items = c.args.actions.items in
    any_from_yields_List is_act _ _ _ c.any.ensures.ran (YieldsList-from_slice items cc) (λ x b q k. search (rules, tests))
    ∙ sym (acts_any items)
