-- Where a run of a startup stands (specs/StartupClaim.antt): a new driver stays one but for its settings and listeners until `start`
-- (`prepared`), and each point of the run is in the stage of StartupStages.antt that what was seen says (`stands`). Assumes nothing.
use Rattle.std.proofs.Common.{◌≡◌, ℕ, suc, ◌+◌, ◌≤◌, Bool, true, false, cond, not, ◌&&◌, ◌||◌}
use Rattle.std.proofs.Common.{eqb, leb, List, [], ◌∷◌, get_or}
use Rattle.std.proofs.Common.{refl, sym, ap, ap₂, subst, ◌∙◌, arith}
use borrow.Author.Tests.{eqb-false, leb-false, not-true}
use Rattle.std.specs.Prelude.{Option, None, Some, is_some, is_none}
use Rattle.rf233_const.specs.Bits.{bit_set}
use Rattle.rf233_const.specs.Status.{chip_status}
use Rattle.rf233_const.specs.declared.register.RF233Register.TheVariants.{TRX_STATUS}
use Rattle.rf233.specs.Choice.{pick, one_of, within}
use Rattle.rf233.specs.Completion.{completed}
use Rattle.rf233.specs.Config.{begin_start, start_call, channel_fits, reset_call, set_power, set_channel}
use Rattle.rf233.specs.Create.{new_call}
use Rattle.rf233.specs.Driver.{flagged, with_settings}
use Rattle.rf233.specs.Driver.Flag.{transmitting, sleep_pending}
use Rattle.rf233.specs.Guard.{Called, after, accepted, pool_fault}
use Rattle.rf233.specs.Interrupt.{handle_interrupt}
use Rattle.rf233.specs.Kernel.{completion_call, fired_call}
use Rattle.rf233.specs.Listeners.{set_client}
use Rattle.rf233.specs.Transfer.{to_complete}
use Rattle.rf233.specs.declared.answer.Outcome.{Outcome}
use Rattle.rf233.specs.declared.driver.Driver.{Driver}
use Rattle.rf233.specs.declared.driver.Settings.{Settings}
use Rattle.rf233.specs.declared.transfer.Transfer.{Transfer}
use Rattle.rf233.specs.Arrived.{arrived_of}
use Rattle.rf233.proofs.Accepted.{past, fired_accepted, completion_accepted, had_transfer}
use Rattle.rf233.proofs.ChoiceLaws.{branch, either}
use Rattle.laws.proofs.Logic.{left, is_true, both_left, both_right, none_left, none_right, clash}
use Rattle.rf233.specs.Calls.{Call, made}
use Rattle.rf233.specs.Refusal.{withdraws}
use Rattle.rf233.specs.StartupClaim.{Seen, Setting, Prepared, Run, also_sent, at_start, at_completion, at_firing}
use Rattle.rf233.specs.StartupClaim.{first_status_out, interrupt_out, shows_lock, last_reads, pll_on_sent}
use Rattle.rf233.specs.StartupClaim.Setting.{address, address_long, pan, channel, power, listener}
use Rattle.rf233.specs.StartupClaim.Prepared.{new, set}
use Rattle.rf233.specs.StartupClaim.Run.{here, completes, fires}
use Rattle.rf233.proofs.Refusal.{refused_alters_nothing}
use Rattle.rf233.proofs.StartupStages.{fresh, stage, no_stop, View, seen_view, stage_view, sent_view, completion_view, firing_view}
use Rattle.rf233.proofs.StartupStages.{Holds, holds_at, on_stages, entered, start_leads, firing_leads, next, next_among, completion_leads}
use Rattle.rf233.proofs.StartupStages.{commanded}

-- ---- calls that are refused

-- to withdraw a stop where none waits alters nothing
withdrawn : (d : Driver) → d.flags.sleep_pending ≡ false → flagged sleep_pending false d ≡ d
withdrawn d e = ap (λ b. flagged sleep_pending b d) (sym e)

left_is : (b : Bool) (d : Driver) → d.flags.sleep_pending ≡ false → cond b (flagged sleep_pending false d) d ≡ d
left_is true d e = withdrawn d e
left_is false d e = refl

-- so a refused call leaves a driver for which no stop waits as it is
kept : (d : Driver) (x : Call) (p : List ℕ) → d.flags.sleep_pending ≡ false → accepted (made d x p) ≡ false → after (made d x p) ≡ d
kept d x p e r = (refused_alters_nothing d x p (λ z. clash _ r (ap (λ n. eqb n 0) z))).driver ∙ left_is (withdraws x _) d e

-- ---- before `start`

-- the driver is a new one but for settings and listeners
pub record Fresh (d : Driver) : Type 0 where
  pub is : d ≡ fresh d
  pub fits : within 129 160 d.buffers.spi_buf_whole ≡ true

fresh_new : (l c : ℕ) → Fresh (new_call l c).driver
unfolding new_call
fresh_new l c =
    branch (λ (o : Outcome). Fresh o.driver) _ _ _
    (λ t. record { is = refl; fits = is_true (within 129 160 l) (left (within 129 160 l) (channel_fits c) t) })
    (λ t. record { is = refl; fits = refl })

module _ {d : Driver} (f : Fresh d) where
  -- and so it is with other settings
  with_others : (v : Settings) → Fresh (with_settings v d)
  with_others v = record { is = ap (with_settings v) f.is; fits = f.fits }

  fresh_set : {x : Call} (p : List ℕ) → Setting x → Fresh (after (made d x p))
  unfolding made set_power set_channel
  fresh_set p (address a) = with_others _
  fresh_set p (address_long l) = with_others _
  fresh_set p (pan a) = with_others _
  fresh_set p (channel c) = either (λ (o : Outcome). Fresh o.driver) _ _ _ (with_others _) f
  fresh_set p (power t) = either (λ (o : Outcome). Fresh o.driver) _ _ _ (with_others _) f
  fresh_set p (listener x v) = record { is = ap (λ y. set_client x y v) f.is; fits = f.fits }

  -- a reset clears what is clear
  pub fresh_reset : (v : Bool) (p : List ℕ) → after (made d (Call.reset v) p) ≡ d
  unfolding made reset_call
  fresh_reset v p =
      either (λ (o : Outcome). o.driver ≡ d) v _ _
      (ap (λ b. flagged transmitting b d) (sym (ap (λ (y : Driver). y.flags.transmitting) f.is))) refl

  fresh_kept : (x : Call) (p : List ℕ) → accepted (made d x p) ≡ false → Fresh (after (made d x p))
  fresh_kept x p r = subst Fresh (sym (kept d x p (ap (λ (y : Driver). y.flags.sleep_pending) f.is) r)) f

pub prepared : {l c : ℕ} {d : Driver} → Prepared l c d → Fresh d
prepared new = fresh_new _ _
prepared (set q p x) = fresh_set (prepared q) p x
prepared (Prepared.refuses q x p r) = fresh_kept (prepared q) x p r

-- ---- what is seen after a call

-- the transfer that it began
with_sent : (t : Option Transfer) (s : Seen) → seen_view (record s { sent = also_sent t s.sent }) ≡ sent_view t (seen_view s)
with_sent None s = refl
with_sent (Some t) s = refl

seen_firing : (o : Outcome) (s : Seen) → seen_view (at_firing o s) ≡ firing_view o.reply.transfer (seen_view s)
seen_firing o s = ap (λ (v : View). record v { fired = true }) (with_sent o.reply.transfer s)

-- the first status arrives with the first read, and no other
now_known : (o : Option ℕ) (b : Bool) (y : ℕ) → is_some (pick (is_none o && b) (Some y) o) ≡ is_some o || b
unfolding pick
now_known (Some x) b y = refl
now_known None true y = refl
now_known None false y = refl

seen_completion : (xs : List ℕ) (o : Outcome) (s : Seen) → seen_view (at_completion xs o s) ≡ completion_view o.reply.transfer (seen_view s)
seen_completion xs o s =
    rw (now_known s.status (last_reads TRX_STATUS s.sent) (chip_status (get_or xs 0 0)))
    (ap (λ (v : View). record v { known = is_some s.status || last_reads TRX_STATUS s.sent }) (with_sent o.reply.transfer s))

-- ---- where a run stands

-- one completion fewer where the first status is not 0
abbrev pub skipped : Option ℕ → ℕ
skipped None = 0
skipped (Some x) = pick (eqb x 0) 0 1

-- the number of the stage, by what was seen: a status that is not 0 passes over stage 3; the firing leads two on
abbrev pub number : Seen → ℕ
number s = s.completions + (skipped s.status + cond s.fired 2 0)

-- the driver is that of the stage, over a driver with its settings and listeners, and what was seen is what is seen there
pub record Stands (s : Seen) (d : Driver) : Type 0 where
  pub base : Driver
  pub fits : within 129 160 base.buffers.spi_buf_whole ≡ true
  pub among : number s ≤ 32
  pub is : d ≡ stage base (number s)
  pub view : seen_view s ≡ stage_view (number s)

none_is : (o : Option ℕ) → is_none o ≡ not (is_some o)
none_is None = refl
none_is (Some x) = refl

module _ {s : Seen} {d : Driver} (k : Stands s d) where
  abbrev n : ℕ
  n = number s

  pub holds : Holds k.base k.fits n
  holds = holds_at k.base k.fits n k.among

  pub is_fired : s.fired ≡ leb 29 n
  is_fired = ap (λ (v : View). v.fired) k.view

  pub pll_on_is : pll_on_sent s.sent ≡ leb 27 n
  pll_on_is = ap (λ (v : View). v.pll_on) k.view

  -- a transfer is under way but in 28 and 32
  pub transfer_is : to_complete d.buffers ≡ not (one_of (28 ∷ 32 ∷ []) n)
  transfer_is = ap (λ (y : Driver). to_complete y.buffers) k.is ∙ holds.under_way

  -- the first TRX_STATUS read is out in stage 2
  pub out_at_2 : first_status_out s ≡ eqb n 2
  out_at_2 =
      rw (none_is s.status)
      (ap (λ (v : View). not v.known && v.status) k.view
      ∙ on_stages (λ m. not (leb 3 m) && one_of (2 ∷ 26 ∷ []) m) (λ m. eqb m 2) n k.among refl)

  -- the IRQ_STATUS read of the firing in stage 30
  pub out_at_30 : interrupt_out s ≡ eqb n 30
  out_at_30 =
      ap (λ (v : View). v.fired && v.interrupt) k.view
      ∙ on_stages (λ m. leb 29 m && one_of (1 ∷ 30 ∷ []) m) (λ m. eqb m 30) n k.among refl

-- ---- where each call leads

-- into stage m, over x, by the outcome and what is then seen
enters : {t : Seen} (x : Driver) → within 129 160 x.buffers.spi_buf_whole ≡ true → (m : ℕ) (o : Outcome) → m ≤ 32 → number t ≡ m
    → (o.driver, seen_view t) ≡ entered x m → Stands t o.driver
enters x f m o low q h =
    record {
      base = x;
      fits = f;
      among = rw q low;
      is = ap (λ (z : Driver × View). z.0) h ∙ ap (stage x) (sym q);
      view = ap (λ (z : Driver × View). z.1) h ∙ ap stage_view (sym q);
    }

-- the driver of an outcome, and what is then seen
both : {o q : Outcome} {v w : View} → o ≡ q → v ≡ w → ◌≡◌ {A = Driver × View} (o.driver, v) (q.driver, w)
both e h = ap₂ (λ (o : Outcome) (v : View). (o.driver, v)) e h

-- the next stage's number: the first status counts as it arrives
next_number : (o : Option ℕ) (b : Bool) (y c f : ℕ)
    → (c + 1) + (skipped (pick (is_none o && b) (Some y) o) + f) ≡ suc (c + (skipped o + f)) + pick (is_none o && b) (skipped (Some y)) 0
unfolding pick
next_number (Some x) b y c f = omega arith
next_number None true y c f = omega arith
next_number None false y c f = omega arith

-- the bits that `shows_lock` asks for while the read of IRQ_STATUS is out
lock_shown : (t b c : Bool) → t ≡ true → (not t || (b && not c)) ≡ true → (b ≡ true) × (c ≡ false)
lock_shown true b c i e = (both_left b (not c) e, not-true c (both_right b (not c) e))
lock_shown false b c i e = clash false refl i

module _ {s : Seen} {d : Driver} (k : Stands s d) (xs p : List ℕ) (e : accepted (completion_call d xs p) ≡ true) where
  abbrev t : Seen
  t = at_completion xs (completion_call d xs p).outcome s

  pub number_next : number t ≡ next (arrived_of xs) (n k)
  number_next =
      subst (λ b. number t ≡ suc (n k) + pick b (skipped (Some (chip_status (get_or xs 0 0)))) 0) (out_at_2 k)
      (next_number s.status (last_reads TRX_STATUS s.sent) (chip_status (get_or xs 0 0)) s.completions (cond s.fired 2 0))

  pub after_completion : shows_lock s xs ≡ true → Stands t (after (completion_call d xs p))
  after_completion b =
      let a = arrived_of xs in
      let c = (completion_call d xs p).outcome in
      let o = completion_accepted d xs p e ∙ ap (completed a) k.is in
      let away = not-true _ (sym (transfer_is k) ∙ had_transfer d xs p e) in
      let l = completion_leads k.base a (n k) k.among away
      (λ j. lock_shown (interrupt_out s) (bit_set 0 (get_or xs 1 0)) (bit_set 2 (get_or xs 1 0)) (out_at_30 k ∙ j) b) in
      let last = eqb-false (n k) 32 (none_left (eqb (n k) 32) false (none_right (eqb (n k) 28) _ away)) in
      enters (commanded (completed a (stage k.base (n k))).driver k.base) k.fits (next a (n k)) c
      (next_among a (n k) (omega (arith, last, k.among))) number_next
      (both o (seen_completion xs c s ∙ ap₂ (λ (o : Outcome) (v : View). completion_view o.reply.transfer v) o k.view) ∙ l)

module _ {s : Seen} {d : Driver} (k : Stands s d) (p : List ℕ) where
  -- the firing comes in 27 or 28
  at_27 : s.fired ≡ false → pll_on_sent s.sent ≡ true → one_of (27 ∷ 28 ∷ []) (n k) ≡ true
  at_27 f l =
      rw (sym (is_fired k) ∙ f, sym (pll_on_is k) ∙ l) at
      (on_stages (λ m. leb 29 m || (not (leb 27 m) || one_of (27 ∷ 28 ∷ []) m)) (λ m. true) (n k) k.among refl)

  pub after_firing : accepted (fired_call d p) ≡ true → s.fired ≡ false → pll_on_sent s.sent ≡ true
      → Stands (at_firing (fired_call d p).outcome s) (after (fired_call d p))
  after_firing e f l =
      let c = (fired_call d p).outcome in
      let o = fired_accepted d p e ∙ ap handle_interrupt k.is in
      enters (commanded (handle_interrupt (stage k.base (n k))).driver k.base) k.fits (n k + 2) c
      (omega (arith, leb-false 29 (n k) (sym (is_fired k) ∙ f))) (rw f (omega arith))
      (both o (seen_firing c s ∙ ap₂ (λ (o : Outcome) (v : View). firing_view o.reply.transfer v) o k.view)
      ∙ firing_leads k.base (n k) (at_27 f l))

  -- a refused call is not counted
  after_refusal : (x : Call) → accepted (made d x p) ≡ false → Stands s (after (made d x p))
  after_refusal x r =
      subst (Stands s) (sym (kept d x p (ap (λ (y : Driver). y.flags.sleep_pending) k.is ∙ no_stop k.base (n k)) r)) k

-- ---- the run

-- an accepted start is the step from START
start_accepted : {d : Driver} (f : Fresh d) (p : List ℕ) → accepted (start_call d p) ≡ true
    → (start_call d p).outcome ≡ begin_start (flagged sleep_pending false (fresh d))
unfolding start_call pick
start_accepted {d} f p =
    let o = begin_start (flagged sleep_pending false (fresh d)) in
    subst (λ y. accepted (start_call y p) ≡ true → (start_call y p).outcome ≡ o) (sym f.is)
    (λ e. ap (λ (c : Called). c.outcome) (past (pool_fault (fresh d) p) _ _ refl e))

pub start_stands : {d : Driver} (f : Fresh d) (p : List ℕ) → accepted (start_call d p) ≡ true
    → Stands (at_start (start_call d p).outcome) (after (start_call d p))
start_stands {d} f p e =
    let h = ap (λ (o : Outcome). (o.driver, seen_view (at_start o))) (start_accepted f p e) ∙ start_leads d in
    record {
      base = commanded (begin_start (flagged sleep_pending false (fresh d))).driver d;
      fits = f.fits;
      among = omega arith;
      is = ap (λ (z : Driver × View). z.0) h;
      view = ap (λ (z : Driver × View). z.1) h;
    }

pub stands : {s : Seen} {d : Driver} {t : Seen} {e : Driver} → Stands s d → Run s d t e → Stands t e
stands k here = k
stands k (completes r xs p e b) = after_completion (stands k r) xs p e b
stands k (fires r p e f l) = after_firing (stands k r) p e f l
stands k (Run.refuses r x p e) = after_refusal (stands k r) p x e
