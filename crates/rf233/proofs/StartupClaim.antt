-- The startup count of specs/StartupClaim.antt: `startup_claim`. What it says of a point of a run is said of the stage in which the point
-- stands (StartupRun.antt). Assumes nothing.
use Rattle.std.proofs.Common.{◌≡◌, ℕ, zero, suc, ◌+◌, ◌≤◌, Bool, true, false, cond, not, ◌&&◌}
use Rattle.std.proofs.Common.{◌||◌, eqb, leb, ltb, List, [], ◌∷◌}
use Rattle.std.proofs.Common.{length, replicate, refl, sym, ap, subst, ◌∙◌, arith, le-leb, leb-true}
use Rattle.std.proofs.lemmas.Bool.{and_right, or_right}
use borrow.Author.Tests.{eqb-true, eqb-false, eq-eqb, ne_eqb, leb-false}
use Rattle.std.specs.Prelude.{Option, None, Some, is_some}
use Rattle.rf233.specs.Choice.{pick, one_of}
use Rattle.rf233.specs.Config.{begin_start, start_call}
use Rattle.rf233.specs.Described.{described}
use Rattle.rf233.specs.Driver.{in_no}
use Rattle.rf233.specs.Guard.{after, accepted}
use Rattle.rf233.specs.Interrupt.{handle_interrupt}
use Rattle.rf233.specs.Kernel.{completion_call, fired_call}
use Rattle.rf233.specs.Pool.{pool_length, shorter}
use Rattle.rf233.specs.Transfer.{to_complete}
use Rattle.rf233.specs.declared.driver.Driver.{Driver}
use Rattle.rf233.proofs.Accepted.{done_is_accepted, done_handle}
use Rattle.rf233.proofs.Conditions.{by_flag}
use Rattle.rf233.proofs.Starred.{Passes12}
use Rattle.rf233.proofs.StarredSteps.{unguarded, is_accepted}
use Rattle.laws.proofs.Logic.{by_value}
use Rattle.rf233.specs.Refusal.{answered}
use Rattle.rf233.specs.StartupClaim.{Seen, Run, at_completion, at_firing, interrupt_out, shows_lock, pll_on_sent}
use Rattle.rf233.specs.StartupClaim.{needed, is_over, is_ready, GoesOn, Arrives, StartupCount, StartupClaim}
use Rattle.rf233.specs.StartupClaim.GoesOn.{by_completion, by_firing}
use Rattle.rf233.specs.StartupClaim.Run.{here, completes, fires}
use Rattle.rf233.proofs.StartupStages.{fresh, on_stages, View, new_undescribed}
use Rattle.rf233.proofs.StartupRun.{Fresh, prepared, skipped, number, Stands, holds, is_fired, pll_on_is, transfer_is, out_at_2, out_at_30}
use Rattle.rf233.proofs.StartupRun.{fresh_reset, number_next, after_completion, after_firing, start_stands, stands}

-- ---- the count

needed_is : (o : Option ℕ) → needed o + skipped o ≡ 30
unfolding pick
needed_is None = refl
needed_is (Some x) = by_flag (eqb x 0) (λ i. rw i refl) (λ i. rw i refl)

-- N completions were accepted exactly in stage 32
over_by : (c : ℕ) (o : Option ℕ) (f : Bool) → f ≡ leb 29 (c + (skipped o + cond f 2 0)) → is_some o ≡ leb 3 (c + (skipped o + cond f 2 0))
    → (is_some o && eqb c (needed o)) ≡ eqb (c + (skipped o + cond f 2 0)) 32
over_by c o false e i =
    let low = leb-false 29 (c + (skipped o + 0)) (sym e) in
    let few : eqb c (needed o) ≡ false = ne_eqb c (needed o) (λ h. omega (arith, low, h, needed_is o)) in
    and_right (is_some o) _ few ∙ sym (ne_eqb (c + (skipped o + 0)) 32 (λ h. omega (arith, low, h)))
over_by c o true e i =
    let m = c + (skipped o + 2) in
    let some : is_some o ≡ true = i ∙ le-leb 3 m (omega (arith, leb-true 29 m (sym e))) in
    rw some
    (by_value (eqb m 32) (eqb c (needed o)) (λ h. eq-eqb c (needed o) (omega (arith, eqb-true m 32 h, needed_is o)))
    (λ h. ne_eqb c (needed o) (λ q. eqb-false m 32 h (omega (arith, q, needed_is o)))))

-- and no more are
bounded_by : (c : ℕ) (o : Option ℕ) (f : Bool) → f ≡ leb 29 (c + (skipped o + cond f 2 0)) → c + (skipped o + cond f 2 0) ≤ 32
    → c ≤ needed o
bounded_by c o false e h = omega (arith, leb-false 29 (c + (skipped o + 0)) (sym e), needed_is o)
bounded_by c o true e h = omega (arith, needed_is o)

-- ---- what holds where a run stands

module _ {s : Seen} {d : Driver} (k : Stands s d) where
  abbrev n : ℕ
  n = number s

  passes : (p : List ℕ) → length p ≡ pool_length → Passes12 d p
  passes p h = record { pool = h; fit = ap described k.is ∙ (holds k).undescribed }

  over_is : is_over s ≡ eqb n 32
  over_is = over_by s.completions s.status s.fired (is_fired k) (ap (λ (v : View). v.known) k.view)

  over_at : is_over s ≡ true → n ≡ 32
  over_at o = eqb-true n 32 (sym over_is ∙ o)

  at_rest : is_over s ≡ true → to_complete d.buffers ≡ false
  at_rest o = transfer_is k ∙ ap (λ m. not (one_of (28 ∷ 32 ∷ []) m)) (over_at o)

  goes_on : is_over s ≡ false → GoesOn s d
  unfolding fired_call
  goes_on o = by_flag (eqb n 28) (λ i. with_firing (eqb-true n 28 i)) with_completion
    where
      with_firing : n ≡ 28 → GoesOn s d
      with_firing i =
          by_firing (transfer_is k ∙ ap (λ m. not (one_of (28 ∷ 32 ∷ []) m)) i)
          (ap (in_no 27) k.is ∙ ((holds k).in_27 ∙ ap (one_of (27 ∷ 28 ∷ 29 ∷ 30 ∷ [])) i)) (is_fired k ∙ ap (leb 29) i)
          (λ p h. ap accepted (unguarded d p _ (passes p h)) ∙ done_is_accepted (handle_interrupt d) (done_handle d))

      with_completion : eqb n 28 ≡ false → GoesOn s d
      with_completion i =
          let j = sym over_is ∙ o in
          let y = transfer_is k ∙ rw (i, j) refl in
          by_completion y
          (λ xs p l h. is_accepted (record {
            passes = passes p h;
            has_transfer = y;
            arrived = rw (l, ap (λ (y : Driver). ltb (shorter y.buffers) 2) k.is, (holds k).two, i, j) refl;
          }))

  refused_11 : is_over s ≡ true → (xs p : List ℕ) → length p ≡ pool_length → answered (completion_call d xs p) ≡ 11
  unfolding completion_call pick
  refused_11 o xs p h = rw (unguarded d p _ (passes p h), at_rest o) refl

  sent_in_27 : s.fired ≡ false → pll_on_sent s.sent ≡ in_no 27 d
  sent_in_27 f =
      let tested : leb 29 n || leb 27 n ≡ leb 29 n || one_of (27 ∷ 28 ∷ 29 ∷ 30 ∷ []) n =
      on_stages (λ m. leb 29 m || leb 27 m) (λ m. leb 29 m || one_of (27 ∷ 28 ∷ 29 ∷ 30 ∷ []) m) n k.among refl in
      pll_on_is k ∙ (rw (sym (is_fired k) ∙ f) at tested ∙ sym (ap (in_no 27) k.is ∙ (holds k).in_27))

-- ---- READY is reached

-- a later point of the run
record Later (s : Seen) (d : Driver) (t : Seen) : Type 0 where
  at : Seen
  driver : Driver
  run : Run s d at driver
  there : Stands at driver
  later : suc (number t) ≤ number at

-- bytes that show the lock, and a whole pool
bytes : List ℕ
bytes = 0 ∷ 1 ∷ []

pool : List ℕ
pool = replicate 3040 0

later : {s t : Seen} {d e : Driver} → Run s d t e → Stands t e → GoesOn t e → Later s d t
unfolding bytes pool
later {t = t} {e = e} r k (by_completion y a) =
    let c = a bytes pool refl refl in
    let b : shows_lock t bytes ≡ true = or_right (not (interrupt_out t)) true refl in
    record {
      at = at_completion bytes (completion_call e bytes pool).outcome t;
      driver = after (completion_call e bytes pool);
      run = completes r bytes pool c b;
      there = after_completion k bytes pool c b;
      later = omega (arith, number_next k bytes pool c);
    }
later {t = t} {e = e} r k (by_firing y i f a) =
    let c = a pool refl in
    let l = sent_in_27 k f ∙ i in
    record {
      at = at_firing (fired_call e pool).outcome t;
      driver = after (fired_call e pool);
      run = fires r pool c f l;
      there = after_firing k pool c f l;
      later = rw f (omega arith);
    }

arrives : (f : ℕ) {s t : Seen} {d e : Driver} → Run s d t e → Stands t e → 32 ≤ f + number t → Arrives s d
arrives zero {t = t} r k h = record { last = t; driver = _; run = r; over = over_is k ∙ eq-eqb (number t) 32 (omega (arith, k.among)) }
arrives (suc f) {t = t} r k h =
    by_flag (is_over t) (λ o. record { last = t; driver = _; run = r; over = o })
    (λ o. let w = later r k (goes_on k o) in arrives f w.run w.there (omega (arith, w.later)))

-- ---- the claim

counted : {s : Seen} {d : Driver} → Stands s d → StartupCount s d
counted {s} {d} k =
    record {
      exact = ap is_ready k.is ∙ ((holds k).ready ∙ sym (over_is k));
      firing = λ o. is_fired k ∙ ap (leb 29) (over_at k o);
      rests = at_rest k;
      further = refused_11 k;
      bounded = bounded_by s.completions s.status s.fired (is_fired k) k.among;
      progress = goes_on k;
      arrives = arrives 32 here k (omega arith);
      pll_on = sent_in_27 k;
      first_status = out_at_2 k ∙ sym (ap (in_no 2) k.is ∙ (holds k).in_2);
      interrupt = out_at_30 k ∙ sym (ap (λ (y : Driver). y.flags.interrupt_handling) k.is ∙ (holds k).handling);
    }

-- `start` with a whole pool is accepted
start_is_accepted : {d : Driver} → Fresh d → (p : List ℕ) → length p ≡ pool_length → accepted (start_call d p) ≡ true
unfolding start_call begin_start pick
start_is_accepted {d} f p h =
    subst (λ y. accepted (start_call y p) ≡ true) (sym f.is)
    (ap accepted (unguarded (fresh d) p _ (record { pool = h; fit = new_undescribed d f.fits })))

pub startup_claim : StartupClaim
startup_claim =
    record {
      starts = λ l c d q p h. start_is_accepted (prepared q) p h;
      resets = λ l c d q v p. fresh_reset (prepared q) v p;
      counts = λ l c d e p s q a r. counted (stands (start_stands (prepared q) p a) r);
    }
