-- Laws of the book's page: what is entered into a page whose counts are given modulo 2 ^ 64 is, modulo 2 ^ 64, what is entered into the
-- page itself. Assumes nothing.
use Rattle.std.proofs.Common.{arith}
use Rattle.std.proofs.Common.{◌≡◌, ℕ, Bool, cond, eqb, List, [], ◌∷◌, sym, ap, ◌∙◌}
use native.Mathlib.Nat.{mod-mod, mod-add-mod}
use Rattle.rf233.specs.Place.{transmit_place, receive_place}
use Rattle.rf233.specs.declared.action.Action.{Action}
use Rattle.rf233.specs.declared.answer.Reply.{Reply}
use Rattle.rf233.specs.Answer.{answer_no}
use Rattle.rf233.specs.Transfer.{kind_no}
use Rattle.custody.specs.Book.{Page, Fed, write_no, read_no, brought, ended, called, given, noted, noted_all, begun, turned_down, entered}
use Rattle.custody.specs.Book.Fed.{lends_transmit, lends_receive, completes, declines, resumes, other}
use Rattle.custody.specs.BookCode.{wrapped}

pub twice : (k : Page) → wrapped (wrapped k) ≡ wrapped k
unfolding wrapped
twice k = simp mod-mod

-- a choice between pages, wrapped
either : (t : Bool) (x y : Page) → wrapped (cond t x y) ≡ cond t (wrapped x) (wrapped y)
either t x y = grind arith

pub brought_wrapped : (b p : ℕ) (k : Page) → wrapped (brought b p (wrapped k)) ≡ wrapped (brought b p k)
unfolding wrapped
brought_wrapped b p k = simp (mod-mod, mod-add-mod)

pub given_wrapped : (b p m n : ℕ) (k : Page) → wrapped (given b p m n (wrapped k)) ≡ wrapped (given b p m n k)
unfolding wrapped
given_wrapped b p m n k = simp (mod-mod, mod-add-mod)

pub ended_wrapped : (z : ℕ) (k : Page) → wrapped (ended z (wrapped k)) ≡ wrapped (ended z k)
unfolding wrapped
ended_wrapped z k = simp (either, mod-mod)

pub begun_wrapped : (n w r : ℕ) (k : Page) → wrapped (begun n w r (wrapped k)) ≡ wrapped (begun n w r k)
unfolding wrapped
begun_wrapped n w r k = simp (either, mod-mod)

pub turned_down_wrapped : (y : Reply) (k : Page) → wrapped (turned_down y (wrapped k)) ≡ wrapped (turned_down y k)
unfolding wrapped
turned_down_wrapped y k = simp mod-mod

completed_wrapped : (k : Page) → wrapped (called completes (wrapped k)) ≡ wrapped (called completes k)
unfolding wrapped
completed_wrapped k = ended_wrapped k.waits k

declined_wrapped : (k : Page) → wrapped (called declines (wrapped k)) ≡ wrapped (called declines k)
unfolding wrapped
declined_wrapped k = ended_wrapped k.kind k

resumed_wrapped : (k : Page) → wrapped (called resumes (wrapped k)) ≡ wrapped (called resumes k)
unfolding wrapped
resumed_wrapped k = simp mod-mod

pub called_wrapped : (f : Fed) (k : Page) → wrapped (called f (wrapped k)) ≡ wrapped (called f k)
called_wrapped (lends_transmit b) k = brought_wrapped b transmit_place k
called_wrapped (lends_receive b) k = brought_wrapped b receive_place k
called_wrapped completes k = completed_wrapped k
called_wrapped declines k = declined_wrapped k
called_wrapped resumes k = resumed_wrapped k
called_wrapped other k = twice k

pub noted_wrapped : (a : Action) (k : Page) → wrapped (noted a (wrapped k)) ≡ wrapped (noted a k)
noted_wrapped a k = grind (arith, twice, given_wrapped)

-- one entry after another
then : (f g : Page → Page) → ((k : Page) → wrapped (f (wrapped k)) ≡ wrapped (f k)) → ((k : Page) → wrapped (g (wrapped k)) ≡ wrapped (g k))
    → (k : Page) → wrapped (g (f (wrapped k))) ≡ wrapped (g (f k))
then f g p q k = sym (q (f (wrapped k))) ∙ (ap (λ (x : Page). wrapped (g x)) (p k) ∙ q (f k))

pub noted_all_wrapped : (l : List Action) (k : Page) → wrapped (noted_all l (wrapped k)) ≡ wrapped (noted_all l k)
noted_all_wrapped [] = twice
noted_all_wrapped (x ∷ more) = then (noted x) (noted_all more) (noted_wrapped x) (noted_all_wrapped more)

-- what is entered after the call itself: its actions, its transfer
pub ruleset after_a_call = (noted_all_wrapped, begun_wrapped)

-- the call, its actions and its transfer
all_wrapped : (n w r : ℕ) (l : List Action) (f : Fed) (k : Page)
    → wrapped (begun n w r (noted_all l (called f (wrapped k)))) ≡ wrapped (begun n w r (noted_all l (called f k)))
all_wrapped n w r l f =
    then (λ k. noted_all l (called f k)) (begun n w r) (then (called f) (noted_all l) (called_wrapped f) (noted_all_wrapped l))
    (begun_wrapped n w r)

choose : (t : Bool) (a b c d : Page) → wrapped a ≡ wrapped c → wrapped b ≡ wrapped d → wrapped (cond t a b) ≡ wrapped (cond t c d)
choose t a b c d p q = grind arith

-- so a list of calls may be entered with the counts wrapped at each, as the code does it
pub entered_wrapped : (f : Fed) (y : Reply) (k : Page) → wrapped (entered f y (wrapped k)) ≡ wrapped (entered f y k)
unfolding entered
entered_wrapped f y k =
    choose (eqb (answer_no y.answer) 0) _ _ _ _
    (all_wrapped (kind_no y.transfer) (write_no y.transfer) (read_no y.transfer) y.actions.items f k)
    (turned_down_wrapped y k)
