-- A new driver, 15's too, and a new book meet the invariant of Custody.antt. Assumes nothing.
use Rattle.std.proofs.Common.{◌≡◌, ℕ, true, leb, refl, arith, le-leb, leb-true}
use Rattle.rf233.specs.Choice.{within}
use Rattle.rf233.specs.Config.{channel_fits}
use Rattle.rf233.specs.Create.{new_call, new_driver}
use Rattle.rf233.specs.declared.answer.Outcome.{Outcome}
use Rattle.custody.specs.Book.{new_page}
use Rattle.custody.specs.Claim.{World, new_world}
use Rattle.laws.proofs.Logic.{left, is_true, both_left}
use Rattle.rf233.proofs.ChoiceLaws.{branch}
use Rattle.rf233.proofs.Fit.{fit}
use Rattle.custody.proofs.Custody.{Inv}
use Rattle.custody.proofs.Match.{match_new}

-- the invariant of a world
abbrev pub Holds : World → Type 0
Holds w = Inv w.book w.driver

-- a new driver meets it
new_holds : (l c : ℕ) → within 129 160 l ≡ true → Inv new_page (new_driver l c)
unfolding fit
new_holds l c e =
    let low = leb-true 129 l (both_left (leb 129 l) (leb l 160) e) in
    record {
      match = match_new l c;
      fitted = tt;
      lengths =
          record {
            whole = e;
            present = rw (le-leb 2 l (omega arith), le-leb l l (omega arith));
            tx = refl;
            tx_under = refl;
            rx = refl;
            rx_under = refl;
          };
    }

-- and 15's driver
pub newly : (l c : ℕ) → Holds (new_world l c)
unfolding new_call
newly l c =
    branch (λ (o : Outcome). Inv new_page o.driver) _ _ _
    (λ y. new_holds l c (is_true (within 129 160 l) (left (within 129 160 l) (channel_fits c) y))) (λ y. new_holds 129 26 refl)
