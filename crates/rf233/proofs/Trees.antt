-- One walk through the tree of a state's case: what every leaf passes that can be reached, the row that the tree leads to passes
-- (`row_at`), and for the row of the driver's state from one test computed over all 69 (`row_of_lem`). Assumes nothing.
use Prim.Native.Nat.{ℕ}
use mathlib.Core.Bool.{Bool, true, false, not, ◌&&◌, cond}
use lib.Dec.{T, eqb}
use Rattle.rf233.specs.Case.{tree_at}
use Rattle.rf233.specs.Choice.{pick}
use Rattle.rf233.specs.Driver.{Flag, flag_no, flag}
use Rattle.rf233.specs.Driver.Flag.{
  radio_on,
  transmitting,
  receiving,
  crc_valid,
  interrupt_handling,
  interrupt_pending,
  config_pending,
  sleep_pending,
  wake_pending,
  power_client_pending,
}
use Rattle.rf233.specs.Rows.{Test, Row, Tree, holds, eval}
use Rattle.rf233.specs.Rows.Test.{status_in, length_fits, is_spoiled, is_set, listens}
use Rattle.rf233.specs.Rows.Tree.{leaf, ask}
use Rattle.rf233.specs.Reception.{in_range}
use Rattle.rf233.specs.State.{state_no}
use Rattle.std.specs.Prelude.{Option, None, Some}
use Rattle.rf233.specs.declared.arrived.Arrived.{Arrived}
use Rattle.rf233.specs.declared.driver.Client.{Client}
use Rattle.rf233.specs.declared.driver.Client.TheVariants.{Transmit, Receive, Config, Power}
use Rattle.rf233.specs.declared.driver.Driver.{Driver}
use Rattle.laws.proofs.Logic.{left, right, imp, apply, all_below, below_at}
use Rattle.rf233.proofs.Keys.{state_below}

-- whether a test can have an answer
abbrev pub Possible : Type 0
Possible = Test → Bool → Bool

-- each leaf passes p that can be reached
abbrev pub leaves : Possible → (Row → Bool) → Tree → Bool
leaves can p (leaf r) = p r
leaves can p (ask c u v) = imp (can c true) (leaves can p u) && imp (can c false) (leaves can p v)

-- the row that a test's answer chooses
chosen : (p : Row → Bool) (can : Bool → Bool) (b : Bool) (x y : Row) → T (can b) → (T (can true) → T (p x)) → (T (can false) → T (p y))
    → T (p (pick b x y))
unfolding pick
chosen p can true x y h s t = s h
chosen p can false x y h s t = t h

module _ (can : Possible) (p : Row → Bool) (a : Arrived) (d : Driver) (so : (c : Test) → T (can c (holds c a d))) where
  pub row_at : (u : Tree) → T (leaves can p u) → T (p (eval u a d))
  unfolding eval
  row_at (leaf r) t = t
  row_at (ask c u v) t =
      let yes = imp (can c true) (leaves can p u) in
      chosen p (can c) (holds c a d) (eval u a d) (eval v a d) (so c)
      (λ h. row_at u (apply (can c true) (leaves can p u) (left yes _ t) h))
      (λ h. row_at v (apply (can c false) (leaves can p v) (right yes _ t) h))

-- the row that the case of the driver's state carries out
abbrev pub row_of : Arrived → Driver → Row
row_of a d = eval (tree_at (state_no d.state)) a d

-- nothing is known: any answer is possible
abbrev pub unknown : Possible
unknown c v = true

pub row_of_lem : (p : ℕ → Row → Bool) → T (all_below (λ n. leaves unknown (p n) (tree_at n)) 69) → (a : Arrived) (d : Driver)
    → T (p (state_no d.state) (row_of a d))
row_of_lem p t a d =
    let n = state_no d.state in
    row_at unknown (p n) a d (λ c. tt) (tree_at n) (below_at (λ n. leaves unknown (p n) (tree_at n)) 69 t n (state_below d.state))

-- ---- where some of the answers are known

-- of the held length, the spoiled frame, the send that waits, the receive listener; None: not known
pub record Known : Type 0 where
  pub fits : Option Bool
  pub spoiled : Option Bool
  pub sends : Option Bool
  pub hears : Option Bool

abbrev same : Bool → Bool → Bool
same a b = cond a b (not b)

pub same_self : (a : Bool) → T (same a a)
same_self true = tt
same_self false = tt

abbrev pub allows : Option Bool → Bool → Bool
allows None v = true
allows (Some w) v = same w v

abbrev told_by : Option Bool → Client → Bool → Bool
told_by h Transmit v = true
told_by h Receive v = allows h v
told_by h Config v = true
told_by h Power v = true

abbrev pub known : Known → Possible
known k (status_in l) v = true
known k length_fits v = allows k.fits v
known k is_spoiled v = allows k.spoiled v
known k (is_set g) v = imp (eqb (flag_no g) (flag_no transmitting)) (allows k.sends v)
known k (listens x) v = told_by k.hears x v

-- what is known is so of the driver
pub record Knows (k : Known) (d : Driver) : Type 0 where
  pub fits : T (allows k.fits (in_range d.reception))
  pub spoiled : T (allows k.spoiled d.reception.spoiled)
  pub sends : T (allows k.sends (flag transmitting d.flags))
  pub hears : T (allows k.hears d.clients.rx_client)

flag_so : (k : Known) (d : Driver) → Knows k d → (g : Flag)
    → T (imp (eqb (flag_no g) (flag_no transmitting)) (allows k.sends (flag g d.flags)))
flag_so k d h radio_on = tt
flag_so k d h transmitting = h.sends
flag_so k d h receiving = tt
flag_so k d h crc_valid = tt
flag_so k d h interrupt_handling = tt
flag_so k d h interrupt_pending = tt
flag_so k d h config_pending = tt
flag_so k d h sleep_pending = tt
flag_so k d h wake_pending = tt
flag_so k d h power_client_pending = tt

pub known_so : (k : Known) (a : Arrived) (d : Driver) → Knows k d → (c : Test) → T (known k c (holds c a d))
unfolding holds
known_so k a d h (status_in l) = tt
known_so k a d h length_fits = h.fits
known_so k a d h is_spoiled = h.spoiled
known_so k a d h (is_set g) = flag_so k d h g
known_so k a d h (listens Transmit) = tt
known_so k a d h (listens Receive) = h.hears
known_so k a d h (listens Config) = tt
known_so k a d h (listens Power) = tt

-- the row of the driver's state passes what every leaf passes that what is known lets be reached
pub row_known : (k : Known) (p : Row → Bool) (a : Arrived) (d : Driver) → Knows k d → T (leaves (known k) p (tree_at (state_no d.state)))
    → T (p (row_of a d))
row_known k p a d h t = row_at (known k) p a d (known_so k a d h) (tree_at (state_no d.state)) t
