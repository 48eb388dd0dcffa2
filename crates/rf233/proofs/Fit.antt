-- What every driver that was new meets, beyond what refusal 12 asks (`fit`), over one record of the facts that steer it, and what follows
-- from it by computing over all 69 states. Assumes nothing.
use Prim.Native.Nat.{ℕ, ◌<◌}
use mathlib.Core.Path.{refl, sym, subst}
use mathlib.Core.Bool.{Bool, true, false, not, ◌&&◌, ◌||◌, or-true, or-false}
use mathlib.Core.List.{List, [], ◌∷◌}
use lib.Dec.{T, eqb, leb, ltb, ltb→lt}
use lib.ListN.{length}
use Rattle.rf233.specs.Case.{trees, tree_at}
use Rattle.rf233.specs.Choice.{one_of, within}
use Rattle.rf233.specs.Completion.{length_taken}
use Rattle.rf233.specs.Driver.{flag}
use Rattle.rf233.specs.Driver.Flag.{transmitting}
use Rattle.rf233.specs.Rows.{Access, Shown, Row}
use Rattle.rf233.specs.Rows.Access.{none, reads, writes, reads_length, reads_frame, writes_frame}
use Rattle.rf233.specs.Rows.Row.{does}
use Rattle.rf233.specs.Rows.Shown.{plain, power_changed, config_done, sent_back, dropped_back, received_back, received_kept}
use Rattle.rf233.specs.Reception.{in_range}
use Rattle.rf233.specs.State.{state_no, state_frame}
use Rattle.rf233.specs.declared.action.Action.{Action}
use Rattle.rf233.specs.declared.action.Action.TheVariants as action
use Rattle.rf233.specs.declared.arrived.Arrived.{Arrived}
use Rattle.rf233.specs.declared.driver.Driver.{Driver}
use Rattle.laws.proofs.Logic.{left, right, pair, or_left, imp, apply, all, all_at, all_below, below_at}
use Rattle.rf233.proofs.Facts.{Kind, kind, is_none, frame_of, Facts, facts, of, under, at, holding, flags, settled, prepared, back}
use Rattle.rf233.proofs.Facts.{Fuller, fuller, ranging, taken_is, parking}
use Rattle.rf233.proofs.Conditions.{by_flag}
use Rattle.rf233.proofs.Facts.Kind.{nothing, access, reading, writing}
use Rattle.rf233.proofs.Trees.{Known, leaves, row_of, known, row_known, same_self}
use Rattle.std.specs.Prelude.{Some, None, cond}

-- states 33 and 35 to 43 have the transmit buffer in its place; 62, 64 and 66 to 68 a receive buffer in the line
abbrev pub met : Facts → Bool
met c =
    imp (eqb c.state 33 || (leb 35 c.state && leb c.state 43)) c.tx
    && imp (eqb c.state 62 || (eqb c.state 64 || (leb 66 c.state && leb c.state 68))) c.rx

-- by the transfer under way or waiting: a frame write has emptied its place, and has its buffer there again while it waits, as a frame
-- read that waits has in the line; an interrupt is handled during a register transfer only
abbrev pub fits : Kind → Facts → Bool
fits nothing c = not c.parked && (met c && (imp c.sends c.tx && not c.handles))
fits access c = met c && imp c.sends c.tx
fits reading c = imp c.sends c.tx && (not c.handles && imp c.parked c.rx)
fits writing c = cond c.parked c.tx (not c.tx) && not c.handles

-- the state names the frame transfer that is under way, and no other
abbrev pub framed : Facts → Bool
framed c = eqb (frame_of c.transfer) (state_frame c.state)

-- in 65 to 68 the held length is a frame's
abbrev pub held : Facts → Bool
held c = imp (leb 65 c.state && leb c.state 68) c.in_range

-- the driver's record and its held length fit the state
unfoldable pub fit : Facts → Bool
fit c = ltb c.state 69 && (framed c && (fits c.transfer c && held c))

-- a test of the facts, and of which kinds of transfer it is asked
abbrev pub Test : Type 0
Test = Facts → Bool

abbrev pub Guard : Type 0
Guard = Kind → Bool

-- of all; where no transfer is under way; where one is
abbrev pub any : Guard
any k = true

abbrev pub resting : Guard
resting k = is_none k

abbrev pub busy : Guard
busy k = not (is_none k)

-- nothing more is asked
abbrev pub always : Test
always c = true

-- a test over the four kinds
abbrev all_kinds : (Kind → Bool) → Bool
all_kinds f = f nothing && (f access && (f reading && f writing))

kind_at : (f : Kind → Bool) → T (all_kinds f) → (k : Kind) → T (f k)
kind_at f t nothing = left (f nothing) _ t
kind_at f t access = left (f access) _ (right (f nothing) _ t)
kind_at f t reading = left (f reading) _ (right (f access) _ (right (f nothing) _ t))
kind_at f t writing = right (f reading) _ (right (f access) _ (right (f nothing) _ t))

-- a test over all places and flags
abbrev all_flags : Test → Kind → ℕ → Bool
all_flags e k n = all λ t. all λ r. all λ s. all λ h. all λ g. all λ w. e (facts k n t r s h g w)

-- a test over all facts in state n, where the guard and the state's frame transfer allow them
abbrev pub all_facts : Guard → Test → ℕ → Bool
all_facts g e n = all_kinds λ k. imp (g k) (imp (eqb (frame_of k) (state_frame n)) (all_flags e k n))

-- what is computed over all facts holds of each
pub facts_at : (g : Guard) (e : Test) → T (all_below (all_facts g e) 69) → (c : Facts) → c.state < 69 → T (g c.transfer) → T (framed c)
    → T (e c)
facts_at g e a c l y f =
    let n = c.state in
    let k = c.transfer in
    all_at (λ w. e (facts k n c.tx c.rx c.sends c.handles c.in_range w))
    (all_at (λ g. all λ w. e (facts k n c.tx c.rx c.sends c.handles g w))
    (all_at (λ h. all λ g. all λ w. e (facts k n c.tx c.rx c.sends h g w))
    (all_at (λ s. all λ h. all λ g. all λ w. e (facts k n c.tx c.rx s h g w))
    (all_at (λ r. all λ s. all λ h. all λ g. all λ w. e (facts k n c.tx r s h g w))
    (all_at (λ t. all λ r. all λ s. all λ h. all λ g. all λ w. e (facts k n t r s h g w))
    (apply (framed c) (all_flags e k n)
    (apply (g k) (imp (framed c) (all_flags e k n))
    (kind_at (λ k. imp (g k) (imp (eqb (frame_of k) (state_frame n)) (all_flags e k n))) (below_at (all_facts g e) 69 a n l) k) y) f)
    c.tx) c.rx) c.sends) c.handles) c.in_range) c.parked

-- q holds wherever the record fits the state and p holds
abbrev tested : Test → Test → Test
tested p q c = imp (fit c) (imp (p c) (q c))

-- what the test shows of every driver whose record fits its state
pub record Follows (g : Guard) (p q : Test) : Type 0 where
  pub gives : (c : Facts) → T (fit c) → T (g c.transfer) → T (p c) → T (q c)

-- one law lifts every such test
law : {g : Guard} {p q : Test} → T (all_below (all_facts g (tested p q)) 69) → Follows g p q
unfolding fit
law {g} {p} {q} e =
    record {
      gives = λ c o y.
          let l = ltb→lt c.state 69 (left (ltb c.state 69) _ o) in
          let f = left (framed c) _ (right (ltb c.state 69) _ o) in
          apply (p c) (q c) (apply (fit c) (imp (p c) (q c)) (facts_at g (tested p q) e c l y f) o);
    }

-- an action that hands no buffer back
abbrev pub harmless : Action → Bool
harmless action.Nothing = true
harmless (action.Power v) = true
harmless (action.Sent b a e) = false
harmless (action.Received b l v) = false
harmless action.ConfigDone = true
harmless (action.Dropped b) = false
harmless action.IrqMakeInput = true
harmless action.IrqClear = true
harmless action.IrqSetFloatingState = true
harmless action.IrqEnableInterrupts = true
harmless action.IrqDisableInterrupts = true
harmless action.SleepMakeOutput = true
harmless action.SleepSet = true
harmless action.SleepClear = true
harmless action.ResetMakeOutput = true
harmless (action.ResetClear n) = true
harmless action.ResetSet = true

-- each buffer that a row's actions hand back, or keep for a later frame, is there and at the front
abbrev pub ok_shown : List Shown → Facts → Bool
ok_shown [] c = true
ok_shown (plain x ∷ more) c = harmless x && ok_shown more c
ok_shown (power_changed ∷ more) c = ok_shown more c
ok_shown (config_done ∷ more) c = ok_shown more c
ok_shown (sent_back ∷ more) c = c.tx && ok_shown more (holding false c.rx c)
ok_shown (dropped_back ∷ more) c = c.tx && ok_shown more (holding false c.rx c)
ok_shown (received_back ∷ more) c = c.rx && ok_shown more (holding c.tx false c)
ok_shown (received_kept ∷ more) c = c.rx && ok_shown more (holding c.tx false c)

-- an access carried out while no transfer is under way leaves what fits, as if there were no more than one buffer in the line; c: the
-- facts before it
abbrev pub ok_access : Access → Facts → Bool
ok_access none c = fit c
ok_access (reads x) c = fit (under access c)
ok_access (writes x v) c = fit (under access c)
ok_access reads_length c = c.rx && fit (holding c.tx false (under reading c))
ok_access reads_frame c = c.in_range && (c.rx && fit (holding c.tx false (under reading c)))
ok_access writes_frame c = c.tx && fit (holding false c.rx (under writing c))

-- a row likewise
abbrev pub ok_row : Facts → Row → Bool
ok_row c (does l x m sh) = (leb (length sh) 6 && ok_shown sh (settled l m c)) && ok_access x (prepared l m sh c)

-- what the facts tell of the tests
abbrev by_facts : Facts → Known
by_facts c = record { fits = Some c.in_range; spoiled = None; sends = Some c.sends; hears = None }

-- THE TEST OF THE 69 ROWS: each state's case leads to rows that leave what fits
all_rows : Follows resting always (λ c. leaves (known (by_facts c)) (ok_row c) (tree_at c.state))
unfolding fit tree_at trees
all_rows = law tt

-- at every state and whatever arrives
pub row_fits : (a : Arrived) (d : Driver) → T (fit (of d)) → T (is_none (kind d.buffers.under)) → T (ok_row (of d) (row_of a d))
row_fits a d o i =
    let s = flag transmitting d.flags in
    row_known (by_facts (of d)) (ok_row (of d)) a d
    (record { fits = same_self (in_range d.reception); spoiled = tt; sends = same_self s; hears = tt })
    (all_rows.gives (of d) o i tt)

-- The phases of a completion, and the calls, each by the same test.

-- the facts once a register transfer has begun, in state n
abbrev pub accessing : ℕ → Facts → Facts
accessing n c = at n (under access c)

-- an interrupt is handled; in RX reception is turned off first
pub to_handling : Follows resting always (λ c. fit (flags c.sends true (accessing c.state c)))
unfolding fit
to_handling = law tt

pub to_60 : Follows resting always (λ c. fit (accessing 60 c))
unfolding fit
to_60 = law tt

-- a commit starts
pub to_45 : Follows resting always (λ c. fit (accessing 45 c))
unfolding fit
to_45 = law tt

-- the end of a frame
pub to_62 : Follows resting (λ c. c.rx) (λ c. fit (at 62 c))
unfolding fit
to_62 = law tt

pub to_33 : Follows resting (λ c. c.sends) (λ c. fit (accessing 33 c))
unfolding fit
to_33 = law tt

pub to_29 : Follows resting always (λ c. fit (accessing 29 c))
unfolding fit
to_29 = law tt

-- the interrupt's bits: RX, and from 27 and 40 the next state
pub to_59 : Follows resting always (λ c. fit (at 59 c))
unfolding fit
to_59 = law tt

pub to_28 : Follows resting (λ c. eqb c.state 27) (λ c. fit (at 28 c))
unfolding fit
to_28 = law tt

pub to_42 : Follows resting (λ c. eqb c.state 40) (λ c. fit (at 42 c))
unfolding fit
to_42 = law tt

-- in 63 any length may become the held one
any_length : Follows any (λ c. eqb c.state 63) (λ c. all λ g. fit (ranging g c))
unfolding fit
any_length = law tt

pub taken_fits : (a : Arrived) (d : Driver) → T (fit (of d)) → T (fit (of (length_taken a d)))
taken_fits a d o =
    by_flag (eqb (state_no d.state) 63)
    (λ e. all_at (λ g. fit (ranging g (of d))) (any_length.gives (of d) o tt (rw e tt)) (of (length_taken a d)).in_range)
    (λ e. subst (λ c. T (fit c)) (sym (taken_is a d e)) o)

-- the buffers return
pub return_fits : Follows busy always (λ c. fit (back c))
unfolding fit
return_fits = law tt

-- or they return and the transfer waits
pub decline_fits : Follows busy always (λ c. fit (parking c))
unfolding fit
decline_fits = law tt

-- the facts where a transfer that waited does so no more, and what starts it again
abbrev pub unparked : Facts → Facts
unparked c = facts nothing c.state c.tx c.rx c.sends c.handles c.in_range false

abbrev pub ok_again : Kind → Facts → Bool
ok_again nothing c = true
ok_again access c = fit (under access c)
ok_again reading c = c.rx && fit (holding c.tx false (under reading c))
ok_again writing c = c.tx && fit (holding false c.rx (under writing c))

pub again_fits : Follows any (λ c. c.parked) (λ c. ok_again c.transfer (unparked c))
unfolding fit
again_fits = law tt

-- a frame write that waits has its buffer in its place
pub tx_home : Follows any (λ c. eqb (frame_of c.transfer) 2 && c.parked) (λ c. c.tx)
unfolding fit
tx_home = law tt

-- a frame write under way has emptied its place
pub tx_empty : Follows any (λ c. eqb (frame_of c.transfer) 2 && not c.parked) (λ c. not c.tx)
unfolding fit
tx_empty = law tt

-- the kind of transfer once a register transfer is asked for, whatever is under way or waits, and the facts then, in state n
abbrev pub joins : Kind → Kind
joins nothing = access
joins access = access
joins reading = reading
joins writing = writing

abbrev pub joined : Facts → Facts
joined c = facts (joins c.transfer) c.state c.tx c.rx c.sends c.handles c.in_range c.parked

abbrev pub join : ℕ → Facts → Facts
join n c = at n (joined c)

-- `start`
pub join_same : Follows any always (λ c. fit (join c.state c))
unfolding fit
join_same = law tt

pub join_32 : Follows any (λ c. eqb c.state 31) (λ c. fit (join 32 c))
unfolding fit
join_32 = law tt

-- `stop`
pub join_30 : Follows any (λ c. one_of (27 ∷ 29 ∷ []) c.state) (λ c. fit (join 30 c))
unfolding fit
join_30 = law tt

-- `reset`
pub unsent : Follows any always (λ c. fit (flags false c.handles c))
unfolding fit
unsent = law tt

-- `transmit` finds nothing to transmit
abbrev pub unused : Test
unused c = not (c.tx || (eqb (frame_of c.transfer) 2 || c.sends))

pub tx_fits : Follows any unused (λ c. fit (flags true c.handles (holding true c.rx c)))
unfolding fit
tx_fits = law tt

pub join_33 : Follows any (λ c. unused c && eqb c.state 29) (λ c. fit (flags true c.handles (holding true c.rx (join 33 c))))
unfolding fit
join_33 = law tt

-- a buffer in the line: nothing that fits without one does not fit with one
pub in_line : Follows any always (λ c. fit (holding c.tx true c))
unfolding fit
in_line = law tt

-- so with more in it than is asked
pub fuller_fits : {c e : Facts} → Fuller c e → T (fit c) → T (fit e)
fuller_fits {c} {e} f o = subst (λ x. T (fit x)) (sym f.same) (go f.more)
  where
    go : (v : Bool) → T (fit (fuller v c))
    go true = rw or-true (in_line.gives c o tt tt)
    go false = rw or-false o

-- of an access likewise
pub fuller_access : (x : Access) {c e : Facts} → Fuller c e → T (ok_access x c) → T (ok_access x e)
fuller_access x {c} {e} p o = subst (λ z. T (ok_access x z)) (sym p.same) (go x o)
  where
    w : (k : Kind) → Fuller (under k c) (under k (fuller p.more c))
    w k = record { more = p.more; same = refl }

    go : (x : Access) → T (ok_access x c) → T (ok_access x (fuller p.more c))
    go none o = fuller_fits (record { more = p.more; same = refl }) o
    go (reads r) o = fuller_fits (w access) o
    go (writes r v) o = fuller_fits (w access) o
    go reads_length o = pair (c.rx || p.more) _ (or_left c.rx p.more (left c.rx _ o)) (right c.rx _ o)
    go reads_frame o =
        let g = c.in_range in
        let m = right g _ o in
        pair g _ (left g _ o) (pair (c.rx || p.more) _ (or_left c.rx p.more (left c.rx _ m)) (right c.rx _ m))
    go writes_frame o = pair c.tx _ (left c.tx _ o) (fuller_fits (record { more = p.more; same = refl }) (right c.tx _ o))

-- while a frame is read out and announced the held length is a frame's; from the end of the length read on there is a receive buffer
pub held_in_range : Follows any (λ c. leb 65 c.state && leb c.state 68) (λ c. c.in_range)
unfolding fit
held_in_range = law tt

pub buffer_there : Follows any (λ c. leb 64 c.state && leb c.state 68) (λ c. c.rx || (eqb (frame_of c.transfer) 1 && not c.parked))
unfolding fit
buffer_there = law tt

-- what refusal 12 asks of state, transfer, places and held length
pub fit_frame : Follows any always
    (λ c. framed c && not (ltb 0 (frame_of c.transfer) && c.handles))
unfolding fit
fit_frame = law tt

abbrev pub home_missing : Kind → Facts → Bool
home_missing nothing c = false
home_missing access c = false
home_missing reading c = not c.rx
home_missing writing c = not c.tx

pub fit_places : Follows any always
    (λ c. not (((one_of (33 ∷ 43 ∷ []) c.state && not c.tx) || (one_of (62 ∷ 64 ∷ 68 ∷ []) c.state && not c.rx))
    || ((within 65 68 c.state && not c.in_range) || (c.parked && home_missing c.transfer c))))
unfolding fit
fit_places = law tt
