-- The actions of a row, entered into the book one after another, leave it in agreement with the record whose places they empty: `hands`.
-- Assumes nothing.
use Rattle.std.proofs.Common.{arith}
use Rattle.std.proofs.Common.{◌≡◌, ℕ, zero, suc, ◌≤◌, false, T, List, [], ◌∷◌, ◌++◌, length, take, replicate}
use Rattle.std.proofs.Common.{sym, refl, ap, ◌∙◌, subst}
use Rattle.std.proofs.Common.{suc-le-suc, le_refl, le_of_suc-le-suc, not-suc-le-zero}
use native.Mathlib.Nat.{le_step}
use Rattle.rf233.specs.Case.{shown, handed, without_tx, without_front, rotated}
use Rattle.rf233.specs.Line.{line, front, some}
use Rattle.rf233.specs.Place.{transmit_place, receive_place}
use Rattle.std.specs.Prelude.{Option, None, Some, is_some}
use Rattle.rf233.specs.Record.{buffer_in}
use Rattle.rf233.specs.Rows.{Shown}
use Rattle.rf233.specs.Rows.Shown.{plain, power_changed, config_done, sent_back, dropped_back, received_back, received_kept}
use Rattle.rf233.specs.declared.action.Action.{Action}
use Rattle.rf233.specs.declared.action.Action.TheVariants as action
use Rattle.rf233.specs.declared.arrived.Arrived.{Arrived}
use Rattle.rf233.specs.declared.driver.Buffers.{Buffers}
use Rattle.rf233.specs.declared.driver.Driver.{Driver}
use Rattle.rf233.specs.declared.driver.Lent.{Lent}
use Rattle.std.specs.List.{fold}
use Rattle.custody.specs.Book.{Page, noted, noted_all, given}
use Rattle.laws.proofs.Logic.{left, right}
use Rattle.rf233.proofs.ChoiceLaws.{branch}
use Rattle.rf233.proofs.Facts.{Facts, holding}
use Rattle.rf233.proofs.Fit.{harmless, ok_shown}
use Rattle.custody.proofs.Match.{Match, gives_tx, gives_rx, turns}

-- what fills the list past its count is passed over, by whatever passes over `Nothing`
module _ {K : Type 0} (f : K → Action → K) (passes : (k : K) → f k action.Nothing ≡ k) where
  nothings : (n m : ℕ) (k : K) → fold f k (take n (replicate m action.Nothing)) ≡ k
  nothings zero m k = refl
  nothings (suc n) zero k = refl
  nothings (suc n) (suc m) k = nothings n m (f k action.Nothing) ∙ passes k

  pub padded_same : (n m : ℕ) (l : List Action) (k : K) → length l ≤ n
      → fold f k (take n (l ++ replicate m action.Nothing)) ≡ fold f k l
  padded_same n m [] k h = nothings n m k
  padded_same zero m (x ∷ l) k h = absurd (not-suc-le-zero h)
  padded_same (suc n) m (x ∷ l) k h = padded_same n m l (f k x) (le_of_suc-le-suc h)

-- an action that hands nothing back leaves the book as it is
quietly : (x : Action) (k : Page) → T (harmless x) → noted x k ≡ k
quietly x k h = grind arith

-- no more actions than the row names
pub fewer : (a : Arrived) (d : Driver) (sh : List Shown) → length (shown a d sh) ≤ length sh
fewer a d [] = le_refl 0
fewer a d (plain x ∷ more) = suc-le-suc (fewer a d more)
fewer a d (power_changed ∷ more) =
    branch (λ z. length z ≤ suc (length more)) _ _ _ (λ y. suc-le-suc (fewer a d more)) (λ y. le_step (fewer a d more))
fewer a d (config_done ∷ more) =
    branch (λ z. length z ≤ suc (length more)) _ _ _ (λ y. suc-le-suc (fewer a d more)) (λ y. le_step (fewer a d more))
fewer a d (sent_back ∷ more) = suc-le-suc (fewer a d more)
fewer a d (dropped_back ∷ more) = suc-le-suc (fewer a d more)
fewer a d (received_back ∷ more) = suc-le-suc (fewer a d more)
fewer a d (received_kept ∷ more) = le_step (fewer a d more)

-- a place that is full has a buffer
pub full : {A : Type 0} (s : Option Lent) → T (is_some s) → ((x : Lent) → s ≡ Some x → A) → A
full None h f = absurd h
full (Some x) h f = f x refl

-- so has a line in which there is one, at its front
pub full_line : {A : Type 0} (l : List Lent) → T (some l) → ((x : Lent) → front l ≡ Some x → A) → A
full_line [] h f = absurd h
full_line (x ∷ l) h f = f x refl

-- the buffer that a notice names is the one in the place
named : (s t : Option Lent) (x : Lent) → s ≡ Some x → s ≡ t → buffer_in t ≡ x.buffer
named s t x e f = ap buffer_in (sym f ∙ e)

-- the actions of a row, entered, leave the book in agreement with the places that they empty. The row is of the driver d; b is the record
-- as far as it has been emptied, and by the facts c what no action has moved yet is in b as it is in d
module _ (a : Arrived) (d : Driver) where
  pub record Of (c : Facts) (b : Buffers) : Type 0 where
    pub tx_of : T c.tx → T (is_some b.tx_buf) × (b.tx_buf ≡ d.buffers.tx_buf)
    pub rx_of : T c.rx → T (some (line b)) × (line b ≡ line d.buffers)

  -- once the transmit place is empty, and once the front of the line has moved
  pub sent_of : {c : Facts} {b : Buffers} → Of c b → Of (holding false c.rx c) (without_tx b)
  sent_of f = record { tx_of = λ y. absurd y; rx_of = f.rx_of }

  pub moved_of : {c : Facts} {b e : Buffers} → Of c b → e.tx_buf ≡ b.tx_buf → Of (holding c.tx false c) e
  moved_of f q = record { tx_of = λ y. rw q (f.tx_of y); rx_of = λ y. absurd y }

  pub hands : (sh : List Shown) (b : Buffers) (k : Page) (c : Facts) → Of c b → T (ok_shown sh c) → Match b k
      → Match (handed sh b) (noted_all (shown a d sh) k)
  hands [] b k c f o m = m
  hands (plain x ∷ more) b k c f o m =
      subst (λ z. Match (handed more b) (noted_all (shown a d more) z)) (sym (quietly x k (left (harmless x) _ o)))
      (hands more b k c f (right (harmless x) _ o) m)
  hands (power_changed ∷ more) b k c f o m =
      branch (λ z. Match (handed more b) (noted_all z k)) _ _ _ (λ y. hands more b k c f o m) (λ y. hands more b k c f o m)
  hands (config_done ∷ more) b k c f o m =
      branch (λ z. Match (handed more b) (noted_all z k)) _ _ _ (λ y. hands more b k c f o m) (λ y. hands more b k c f o m)
  hands (sent_back ∷ more) b k c f o m =
      let t = f.tx_of (left c.tx _ o) in
      full b.tx_buf t.0
      (λ x e. subst (λ z. Match (handed more (without_tx b)) (noted_all (shown a d more) (given z transmit_place 1 0 k)))
      (sym (named b.tx_buf d.buffers.tx_buf x e t.1))
      (hands more (without_tx b) (given x.buffer transmit_place 1 0 k) (holding false c.rx c) (sent_of f)
      (right c.tx _ o) (gives_tx b k m x _ _ e refl)))
  hands (dropped_back ∷ more) b k c f o m =
      let t = f.tx_of (left c.tx _ o) in
      full b.tx_buf t.0
      (λ x e. subst (λ z. Match (handed more (without_tx b)) (noted_all (shown a d more) (noted (action.Dropped z) k)))
      (sym (named b.tx_buf d.buffers.tx_buf x e t.1))
      (hands more (without_tx b) (noted (action.Dropped x.buffer) k) (holding false c.rx c) (sent_of f)
      (right c.tx _ o) (gives_tx b k m x _ _ e refl)))
  hands (received_back ∷ more) b k c f o m =
      let r = f.rx_of (left c.rx _ o) in
      full_line (line b) r.0
      (λ x e. subst (λ z. Match (handed more (without_front b)) (noted_all (shown a d more) (given z receive_place 1 0 k)))
      (sym (named (front (line b)) (front (line d.buffers)) x e (ap front r.1)))
      (hands more (without_front b) (given x.buffer receive_place 1 0 k) (holding c.tx false c) (moved_of f refl)
      (right c.rx _ o) (gives_rx b k m x e)))
  hands (received_kept ∷ more) b k c f o m =
      hands more (rotated b) k (holding c.tx false c) (moved_of f refl) (right c.rx _ o) (turns b k m)
