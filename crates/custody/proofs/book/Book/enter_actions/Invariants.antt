-- The loop of `enter_actions`: the book has what the actions passed move, its counts modulo 2 ^ 64.
use Rattle.std.proofs.Common.{◌≡◌, take}
use Rattle.custody.specs.Book.{noted_all}
use Rattle.custody.specs.BookCode.{wrapped, page_of}
use Rattle.custody.proofs.book.Book.enter_actions.Given as goal

abbrev pub invariant-loop-action : goal.invariant-loop-action
invariant-loop-action l = page_of l.self ≡ wrapped (noted_all (take l.action-index l.action-items) (page_of l.fn.self))
