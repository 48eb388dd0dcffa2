-- The row of a state keeps what `received_length` needs (`Agrees` of LengthSteps.antt), and announces no length but the one that both reads
-- brought: `perform_agrees`, from one test over the rows of all states (`rows_tell`). Assumes nothing.
use Prim.Native.Nat.{zero}
use Rattle.std.proofs.Common.{◌≡◌, ℕ, ◌+◌, ◌-◌, ◌≤◌, Bool, true, false, not, ◌&&◌, T, eqb, leb, List, [], ◌∷◌, length}
use Rattle.std.proofs.Common.{sym, refl, ap, ◌∙◌, subst, arith, leb→le, le_trans, le-leb, suc}
use mathlib.Core.Bool.{or-false}
use borrow.Author.Tests.{ne_eqb, eq-eqb}
use Rattle.std.specs.List.{fold}
use Rattle.std.specs.Prelude.{Option, None, Some}
use Rattle.rf233.specs.Action.{actions}
use Rattle.rf233.specs.Case.{accessed, entering, handed, perform, shown, tree_at, trees, without_tx}
use Rattle.rf233.specs.Choice.{within}
use Rattle.rf233.specs.Driver.{Assignment, assigning, with_buffers}
use Rattle.rf233.specs.Line.{front, line}
use Rattle.rf233.specs.OneBuffer.{in_turn}
use Rattle.rf233.specs.Receive.{received}
use Rattle.rf233.specs.Reception.{in_range}
use Rattle.rf233.specs.Record.{buffer_in}
use Rattle.rf233.specs.Rows.{Access, Next, Row, Shown}
use Rattle.rf233.specs.Rows.Next.{same, to}
use Rattle.rf233.specs.Rows.Access.{none, reads, reads_frame, reads_length, writes, writes_frame}
use Rattle.rf233.specs.Rows.Row.{does}
use Rattle.rf233.specs.Rows.Shown.{config_done, dropped_back, plain, power_changed, received_back, received_kept, sent_back}
use Rattle.rf233.specs.Starter.{frame_read_into, frame_write_from, refrains}
use Rattle.rf233.specs.State.{state_no}
use Rattle.rf233.specs.Transfer.{free_to_start}
use Rattle.rf233.specs.declared.action.Action.{Action}
use Rattle.rf233.specs.declared.action.Action.TheVariants as action
use Rattle.rf233.specs.declared.action.Actions.{Actions}
use Rattle.rf233.specs.declared.answer.Outcome.{Outcome}
use Rattle.rf233.specs.declared.arrived.Arrived.{Arrived}
use Rattle.rf233.specs.declared.driver.Buffers.{Buffers}
use Rattle.rf233.specs.declared.driver.Driver.{Driver}
use Rattle.rf233.specs.declared.driver.Lent.{Lent}
use Rattle.rf233.specs.declared.driver.Under.TheVariants.{Idle}
use Rattle.rf233.specs.declared.reception.Reception.{Reception}
use Rattle.rf233.specs.declared.transfer.TransferKind.TheVariants as transfer
use Rattle.custody.specs.Book.{Page}
use Rattle.custody.specs.ReceivedLength.{Reads, begins, brought, right, told}
use Rattle.laws.proofs.Logic.{all, all_at, all_below, apply, below_at, imp, is_false, is_true, left, right as second}
use Rattle.rf233.proofs.ChoiceLaws.{either}
use Rattle.rf233.proofs.EveryStep.{every_access}
use Rattle.rf233.proofs.Facts.{next_no, of}
use Rattle.rf233.proofs.Fit.{harmless, held_in_range}
use Rattle.rf233.proofs.InTurn.{access_turn}
use Rattle.rf233.proofs.Keys.{state_below}
use Rattle.rf233.proofs.OwnBuffers.{idle_is}
use Rattle.rf233.proofs.RowLaws.{access_by, entering_record, entering_reception}
use Rattle.rf233.proofs.Trees.{Known, known, leaves, row_known, row_of, same_self}
use Rattle.custody.proofs.Actions.{fewer, padded_same}
use Rattle.custody.proofs.BookLaws.{same as same_no}
use Rattle.custody.proofs.Custody.{handed_free}
use Rattle.custody.proofs.Phases.{Rest}
use Rattle.custody.proofs.LengthSteps.{After, Agrees, Goes, frame_65, frame_length, frame_over, goes_on, going_of, held_read}
use Rattle.custody.proofs.LengthSteps.{length_over, register_going, Stands, GoingAt, no_read_going, refrains_going}

-- ---- a row's access, where no transfer is under way

-- a length read begins in 63 alone, a frame read elsewhere, and of a held length in its range (f); k: the row's next state
abbrev reads_in : Access → Bool → ℕ → Bool
reads_in none f k = true
reads_in (reads r) f k = true
reads_in (writes r v) f k = true
reads_in reads_length f k = eqb k 63
reads_in reads_frame f k = f && not (eqb k 63)
reads_in writes_frame f k = true

pub two_more : (n : ℕ) → eqb (n + 2) 2 ≡ eqb n 0
two_more zero = refl
two_more (suc n) = ne_eqb (suc n + 2) 2 (λ q. omega (arith, q)) ∙ sym (ne_eqb (suc n) 0 (λ q. omega (arith, q)))

-- no frame of 0
not_zero : (n : ℕ) → T (within 11 127 n) → eqb n 0 ≡ false
not_zero n t = let h = leb→le 11 n (left (leb 11 n) _ t) in ne_eqb n 0 (λ q. omega arith)

module _ (s : Reads) (e : Driver) (i : e.buffers.under ≡ Idle) (g : s.going ≡ None) where
  abbrev k : ℕ
  k = state_no e.state

  at_rest : Stands s e
  at_rest = rw i (no_read_going g)

  refrained : Goes s (refrains e)
  refrained = refrains_going s e at_rest

  pub read_going : (x : Option Lent) (n : ℕ) → eqb n 0 ≡ eqb k 63 → Goes s (frame_read_into x n e)
  unfolding frame_read_into
  read_going None n h = refrained
  read_going (Some x) n h = either (Goes s) _ _ _ (record { same = rw h refl; short = λ q. two_more n ∙ h }) refrained

  pub write_going : (x : Option Lent) → Goes s (frame_write_from x e)
  unfolding frame_write_from
  write_going None = refrained
  write_going (Some x) = either (Goes s) _ _ _ (record { same = g; short = λ q. absurd (omega (arith, q)) }) refrained

  access_going : (x : Access) (a : Arrived) (l : Actions) → T (reads_in x (in_range e.reception) k)
      → let o = accessed x a l e in
      GoingAt (begins o.reply.transfer s).going o.driver.buffers.under (state_no o.driver.state) o.driver.buffers.spi_buf_len
  access_going none a l t = at_rest
  access_going (reads r) a l t = register_going s e at_rest transfer.RegisterRead _ _ refl
  access_going (writes r v) a l t = register_going s e at_rest transfer.RegisterWrite _ _ refl
  access_going reads_length a l t = read_going (front (line e.buffers)) 0 (sym (is_true (eqb k 63) t))
  access_going reads_frame a l t =
      let n = e.reception.length in
      let f = in_range e.reception in
      read_going (front (line e.buffers)) n (not_zero n (left f _ t) ∙ sym (is_false (eqb k 63) (second f _ t)))
  access_going writes_frame a l t = write_going e.buffers.tx_buf

-- ---- a row's actions

-- no receive buffer leaves the front of the line
abbrev still : List Shown → Bool
still [] = true
still (plain x ∷ more) = still more
still (power_changed ∷ more) = still more
still (config_done ∷ more) = still more
still (sent_back ∷ more) = still more
still (dropped_back ∷ more) = still more
still (received_back ∷ more) = false
still (received_kept ∷ more) = false

still_line : (sh : List Shown) (b : Buffers) → T (still sh) → line (handed sh b) ≡ line b
still_line [] b t = refl
still_line (plain x ∷ more) b t = still_line more b t
still_line (power_changed ∷ more) b t = still_line more b t
still_line (config_done ∷ more) b t = still_line more b t
still_line (sent_back ∷ more) b t = still_line more (without_tx b) t
still_line (dropped_back ∷ more) b t = still_line more (without_tx b) t
still_line (received_back ∷ more) b t = absurd t
still_line (received_kept ∷ more) b t = absurd t

-- a received notice is given only where one may be (v), and but one
abbrev announces : Bool → List Shown → Bool
announces v [] = true
announces v (plain x ∷ more) = harmless x && announces v more
announces v (power_changed ∷ more) = announces v more
announces v (config_done ∷ more) = announces v more
announces v (sent_back ∷ more) = announces v more
announces v (dropped_back ∷ more) = announces v more
announces v (received_back ∷ more) = v && announces false more
announces v (received_kept ∷ more) = announces false more

-- an action that hands nothing back
quietly : (s : Reads) (x : Action) → T (harmless x) → told s x ≡ s
quietly s x h = grind arith

-- the notice that the driver would give is right
abbrev Right : Reads → Driver → Type 0
Right s e = told s (received e) ≡ s

tells : (s : Reads) (a : Arrived) (e : Driver) (v : Bool) → (T v → Right s e) → (sh : List Shown) → T (announces v sh)
    → fold told s (shown a e sh) ≡ s
tells s a e v r [] t = refl
tells s a e v r (plain x ∷ more) t =
    ap (λ q. fold told q (shown a e more)) (quietly s x (left (harmless x) _ t)) ∙ tells s a e v r more (second (harmless x) _ t)
tells s a e v r (power_changed ∷ more) t =
    let h = tells s a e v r more t in either (λ z. fold told s z ≡ s) _ _ _ h h
tells s a e v r (config_done ∷ more) t =
    let h = tells s a e v r more t in either (λ z. fold told s z ≡ s) _ _ _ h h
tells s a e v r (sent_back ∷ more) t = tells s a e v r more t
tells s a e v r (dropped_back ∷ more) t = tells s a e v r more t
tells s a e v r (received_back ∷ more) t =
    ap (λ q. fold told q (shown a e more)) (r (left v _ t)) ∙ tells s a e false (λ f. absurd f) more (second v _ t)
tells s a e v r (received_kept ∷ more) t = tells s a e false (λ f. absurd f) more t

-- a read of buffer b that brought n is what a notice of n - 2 asks for
brings : (b n : ℕ) → 11 ≤ n → brought b (n - 2 + 2) (Some (record { buffer = b; byte = n })) ≡ true
brings b n h = let e : n ≡ n - 2 + 2 = omega arith in rw (same_no b, eq-eqb n (n - 2 + 2) e)

told_right : (s : Reads) (b n : ℕ) (v : Bool) → T (within 11 127 n) → s.length ≡ Some (record { buffer = b; byte = n })
    → s.frame ≡ Some (record { buffer = b; byte = n })
    → told s (action.Received b (n - 2) v) ≡ s
told_right s b n v t l f =
    let low = leb→le 11 n (left (leb 11 n) _ t) in
    let high = leb→le n 127 (second (leb 11 n) _ t) in
    let w = brings b n low in
    let r : right b (n - 2) s ≡ true = rw (l, f, w, le-leb 9 (n - 2) (omega arith), le-leb (n - 2) 125 (omega arith)) in
    rw (r, or-false s.wrong) refl

-- ---- the rows of all states

-- where it is known whether the held length is in its range, and whether the frame is spoiled
abbrev read_known : Bool → Bool → Known
read_known f q = record { fits = Some f; spoiled = Some q; sends = None; hears = None }

-- a row of state n leads no further in a reception than n is, and in one leaves the front of the line; what it announces, and what it reads
abbrev row_tells : Bool → Bool → ℕ → Row → Bool
row_tells f q n (does l x m sh) =
    let k = next_no m n in
    (imp (length_over k) (length_over n && still sh) && imp (frame_over k) (frame_over n))
    && (leb (length sh) 6 && (announces (frame_over n && not q) sh && reads_in x f k))

-- of state n
abbrev state_tells : ℕ → Bool
state_tells n = all λ f. all λ q. leaves (known (read_known f q)) (row_tells f q n) (tree_at n)

-- THE TEST OF THE ROWS
rows_tell : T (all_below state_tells 69)
unfolding tree_at trees
rows_tell = tt

pub row_told : (a : Arrived) (d : Driver) → T (row_tells (in_range d.reception) d.reception.spoiled (state_no d.state) (row_of a d))
row_told a d =
    let n = state_no d.state in
    let f = in_range d.reception in
    let q = d.reception.spoiled in
    row_known (read_known f q) (row_tells f q n) a d (record { fits = same_self f; spoiled = same_self q; sends = tt; hears = tt })
    (all_at (λ q. leaves (known (read_known f q)) (row_tells f q n) (tree_at n))
    (all_at (λ f. all λ q. leaves (known (read_known f q)) (row_tells f q n) (tree_at n))
    (below_at state_tells 69 rows_tell n (state_below d.state)) f) q)

-- the next state
entering_state : (m : Next) (r : ℕ) (l : List Assignment) (d : Driver)
    → state_no (entering m (assigning r l d)).state ≡ next_no m (state_no d.state)
entering_state same r l d = refl
entering_state (to s) r l d = refl

-- ---- a completion

module _ (p : Page) (s : Reads) where
  pub record Ready (d : Driver) : Type 0 where
    pub rest : Rest p d
    pub agrees : Agrees s d

  pub idle : (d : Driver) → Ready d → d.buffers.under ≡ Idle
  idle d g = idle_is d.buffers.under g.rest.free

  pub none_going : (d : Driver) → Ready d → s.going ≡ None
  none_going d g = g.agrees.going.same ∙ ap (λ u. going_of u (state_no d.state)) (idle d g)

  -- what the driver may announce is right
  may_tell : (d e : Driver) → Ready d → e.buffers ≡ d.buffers → e.reception ≡ d.reception
      → T (frame_over (state_no d.state) && not d.reception.spoiled) → Right s e
  may_tell d e g b r t =
      let n = state_no d.state in
      let after = left (frame_over n) _ t in
      let whole = is_false d.reception.spoiled (second (frame_over n) _ t) in
      let turn : in_turn d.buffers ≡ line e.buffers = rw (idle d g) (sym (ap line b)) in
      let same : held_read d ≡ Some (record { buffer = buffer_in (front (line e.buffers)); byte = e.reception.length }) =
      ap (λ l. Some (record { buffer = buffer_in (front l); byte = d.reception.length })) turn
      ∙ ap (λ (x : Reception). Some (record { buffer = buffer_in (front (line e.buffers)); byte = x.length })) (sym r) in
      told_right s (buffer_in (front (line e.buffers))) e.reception.length e.flags.crc_valid
      (subst (λ (x : Reception). T (within 11 127 x.length)) (sym r)
      (held_in_range.gives (of d) g.rest.inv.fitted tt (frame_65 n after)))
      (g.agrees.length (frame_length n after) ∙ same) (g.agrees.frame after whole ∙ same)

  pub perform_agrees : (a : Arrived) (d : Driver) → Ready d → (r : Row)
      → T (row_tells (in_range d.reception) d.reception.spoiled (state_no d.state) r) → After s (perform r a d)
  unfolding perform
  perform_agrees a d g (does l x m sh) t =
      let n = state_no d.state in
      let k = next_no m n in
      let e = entering m (assigning a.result l d) in
      let c = with_buffers (handed sh e.buffers) e in
      let y = actions (shown a e sh) in
      let o = accessed x a y c in
      let b = entering_record m (assigning a.result l d) in
      let r = entering_reception m a.result l d in
      let q = entering_state m a.result l d in
      let reached = imp (length_over k) (length_over n && still sh) in
      let moves = left (reached && imp (frame_over k) (frame_over n)) _ t in
      let shows = second (reached && imp (frame_over k) (frame_over n)) _ t in
      let onward = apply (length_over k) (length_over n && still sh) (left reached _ moves) in
      let six = leb→le (length sh) 6 (left (leb (length sh) 6) _ shows) in
      let may = announces (frame_over n && not d.reception.spoiled) sh in
      let tells_so = left may _ (second (leb (length sh) 6) _ shows) in
      let reads_so = second may _ (second (leb (length sh) 6) _ shows) in
      let away = idle_is c.buffers.under (handed_free sh e.buffers (ap free_to_start b ∙ g.rest.free)) in
      let told_so : fold told s y.items ≡ s =
      padded_same told (λ s. refl) 6 6 (shown a e sh) s (le_trans (fewer a e sh) six)
      ∙ tells s a e _ (may_tell d e g b r) sh tells_so in
      let turn : T (still sh) → in_turn o.driver.buffers ≡ in_turn d.buffers = λ h.
      access_turn c away x a y ∙ (rw away (still_line sh e.buffers h) ∙ (ap line b ∙ rw (idle d g) refl)) in
      let at_k : T (length_over (state_no o.driver.state)) → T (length_over k) =
      access_by (λ f. T (length_over (state_no f.state)) → T (length_over k)) c (λ b. subst (λ n. T (length_over n)) q) x a y in
      let goes = goes_on d o.driver g.agrees (record {
        length = λ h. left (length_over n) _ (onward (at_k h));
        frame =
            access_by (λ f. T (frame_over (state_no f.state)) → T (frame_over n)) c
            (λ b h. apply (frame_over k) (frame_over n) (second reached _ moves) (subst (λ n. T (frame_over n)) q h)) x a y;
        same_first = λ h. ap (λ l. buffer_in (front l)) (turn (second (length_over n) _ (onward (at_k h))));
        reception = access_by (λ f. f.reception ≡ d.reception) c (λ b. r) x a y;
      }) o.reply.transfer
      (access_going s c away (none_going d g) x a y
      (subst (λ (v : Reception). T (reads_in x (in_range v) (state_no e.state))) (sym r)
      (subst (λ n. T (reads_in x (in_range d.reception) n)) (sym q) reads_so))) in
      let shown_so = every_access (λ (o : Outcome). o.reply.actions ≡ y) a y c (λ e t. refl) x in
      subst (λ z. Agrees (begins o.reply.transfer z) o.driver) (sym (ap (λ (w : Actions). fold told s w.items) shown_so ∙ told_so))
      goes
