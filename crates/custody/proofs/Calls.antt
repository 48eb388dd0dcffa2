-- Each call of demand 3 keeps the invariant of Custody.antt, refused or not. Assumes nothing.
use Rattle.std.proofs.Common.{rules}
use Rattle.std.proofs.Common.{◌≡◌, ℕ, ◌+◌, ◌≤◌, Bool, true, false, not, ◌||◌, T, eqb, ltb, leb, List, [], ℤ, length}
use Rattle.std.proofs.Common.{sym, refl, ◌∙◌, subst, arith}
use Rattle.std.proofs.Common.{ltb-false, le-leb, leb-false, ap}
use borrow.Author.Tests.{not-false}
use Rattle.rf233.specs.Action.{actions}
use Rattle.rf233.specs.Answer.{answer_no, answer_of, refused}
use Rattle.rf233.specs.Completion.{completed}
use Rattle.rf233.specs.Config.{begin_start, start_call, begin_stop, stop_call, begin_commit, commit_call, reset_call, set_power}
use Rattle.rf233.specs.Config.{set_channel}
use Rattle.rf233.specs.Data.{handle_bad, tx_busy, begin_transmit, transmit_call, receive_buffer_call}
use Rattle.rf233.specs.Described.{tx_length_bad, receive_length_bad}
use Rattle.rf233.specs.Driver.{flag, flagged, with_state, with_buffers, with_tx, with_line, with_tx_len}
use Rattle.rf233.specs.Line.{line_room, line, append}
use Rattle.rf233.specs.Driver.Flag.{radio_on, transmitting, config_pending, sleep_pending, wake_pending, receiving}
use Rattle.rf233.specs.Guard.{Called}
use Rattle.rf233.specs.Interrupt.{handle_interrupt}
use Rattle.rf233.specs.Kernel.{fired_call, completing, completion_call, declined_call, resume_call}
use Rattle.rf233.specs.Record as rec
use Rattle.std.specs.Prelude.{Some, is_some}
use Rattle.rf233.specs.Record.{lent, record_has, receive_count}
use Rattle.rf233.specs.declared.driver.Lent.{Lent}
use Rattle.rf233.specs.declared.transfer.TransferKind.TheVariants as transfer
use Rattle.rf233.specs.State.{state_no}
use Rattle.rf233.specs.Step.{quiet}
use Rattle.rf233.specs.Transfer.{free_to_start, to_complete, waits, to_resume}
use Rattle.rf233.specs.declared.answer.Outcome.{Outcome}
use Rattle.rf233.specs.declared.driver.Driver.{Driver}
use Rattle.rf233.specs.declared.driver.Under.{Under}
use Rattle.rf233.specs.declared.state.InternalState.TheVariants.{SLEEP_WAKE, SLEEP_TRX_OFF, TX_STATUS_PRECHECK1}
use Rattle.custody.specs.Book.{Page, Fed, called, entered, resumes}
use Rattle.custody.specs.Book as book
use Rattle.custody.specs.Book.Fed.{completes, other, lends_transmit, lends_receive}
use Rattle.custody.specs.Claim.{fed}
use Rattle.rf233.specs.Calls.{Call, made, yields}
use Rattle.rf233.specs.Calls.Call.{
  start,
  stop,
  commit,
  fire,
  query,
  complete,
  transmit,
  receive_buffer,
  reset,
  address,
  pan,
  channel,
  address_long,
  power,
  listener,
  declined,
  resume,
}
use Rattle.laws.proofs.Logic.{right, pair, is_false, nor_left, nor_right, clash}
use Rattle.rf233.proofs.Accepted.{IsDone, done_handle, done_completed}
use Rattle.rf233.proofs.ChoiceLaws.{branch, either}
use Rattle.rf233.proofs.CommitLaws.{commit_waits}
use Rattle.rf233.proofs.Conditions.{by_flag}
use Rattle.rf233.proofs.EveryStep.{commit_by}
use Rattle.rf233.proofs.Facts.{kind, frame_of, of, holding, Facts}
use Rattle.rf233.proofs.Fit.{fit, join_same, join_32, join_30, join_33, unsent, tx_fits, in_line, tx_home}
use Rattle.rf233.proofs.LineLaws.{some_is, some_append, length_append, any_append}
use Rattle.custody.proofs.BookLaws.{empty_is}
use Rattle.custody.proofs.Custody.{Inv, After, Lengths, lengths_line}
use Rattle.custody.proofs.Events.{completed_keeps, others, asks_any, fires_any, declined_keeps, resumed_keeps}
use Rattle.custody.proofs.Match.{refuses, lends_tx, lends_rx}
use Rattle.custody.proofs.Phases.{commits}

-- the invariant once a call is entered into the book
abbrev pub Entered : Fed → Page → Outcome → Type 0
Entered f k o = Inv (entered f o.reply k) o.driver

-- a step that is done
took : (f : Fed) (k : Page) (o : Outcome) → IsDone o → After (called f k) o → Entered f k o
unfolding entered
took f k o e w = rw e w

-- the refusal of a number, from a driver that differs from d in flags at most
turned : (f : Fed) (k : Page) (n : ℕ) (d : Driver) → eqb (answer_no (answer_of n)) 0 ≡ false → Inv k d → Entered f k (refused n d)
unfolding entered
turned f k n d e v =
    rw e (record { match = refuses d.buffers k v.match (refused n d).reply refl refl; fitted = v.fitted; lengths = v.lengths })

-- with no transmit buffer held and none under way, there is no frame write, nor does one wait
not_writing : (u : Under) (c : Facts) → T (fit c) → kind u ≡ c.transfer → waits u ≡ c.parked → is_some (rec.tx_under_way u) ≡ false
    → c.tx ≡ false
    → eqb (frame_of c.transfer) 2 ≡ false
not_writing u c o k w s t =
    by_flag (eqb (frame_of c.transfer) 2)
    (λ e. by_flag c.parked (λ p. absurd (rw t at (tx_home.gives c o tt (rw (e, p) tt))))
    (λ p. clash (is_some (rec.tx_under_way u)) s (under_way_writes u (ap (λ k. eqb (frame_of k) 2) k ∙ e) (w ∙ p))))
    (λ e. e)
  where
    under_way_writes : (u : Under) → eqb (frame_of (kind u)) 2 ≡ true → waits u ≡ false → is_some (rec.tx_under_way u) ≡ true
    under_way_writes u e p = grind arith

module _ (k : Page) (d : Driver) (v : Inv k d) where
  abbrev Yields : Fed → Called → Type 0
  Yields f c = Entered f k c.outcome

  done_started : (e : Driver) → IsDone (begin_start e)
  unfolding begin_start
  done_started e = either IsDone _ _ _ refl refl

  started_keeps : After k (begin_start (flagged sleep_pending false d))
  unfolding begin_start
  started_keeps =
      let e = flagged sleep_pending false d in
      branch (After k) _ _ _
      (λ y. asks_any k d v (with_state SLEEP_WAKE e) refl transfer.RegisterRead _ _ refl refl (join_32.gives (of d) v.fitted tt y))
      (λ y. asks_any k d v (flagged wake_pending true e) refl transfer.RegisterRead _ _ refl refl (join_same.gives (of d) v.fitted tt tt))

  start_keeps : (p : List ℕ) → Yields other (start_call d p)
  unfolding start_call
  start_keeps p =
      let e = flagged sleep_pending false d in
      branch (Yields other) _ _ _ (λ y. turned other k 12 d refl v)
      (λ y. branch (Yields other) _ _ _
      (λ z. took other k (begin_start e) (done_started e) started_keeps)
      (λ z. turned other k 6 e refl (others k d v e refl v.fitted)))

  done_stopped : IsDone (begin_stop d)
  unfolding begin_stop
  done_stopped = either IsDone _ _ _ refl refl

  stopped_keeps : After k (begin_stop d)
  unfolding begin_stop
  stopped_keeps =
      branch (After k) _ _ _
      (λ y. asks_any k d v (with_state SLEEP_TRX_OFF (flagged radio_on false d)) refl transfer.RegisterWrite _ _ refl refl
      (join_30.gives (of d) v.fitted tt y))
      (λ y. others k d v (flagged sleep_pending true d) refl v.fitted)

  stop_keeps : (p : List ℕ) → Yields other (stop_call d p)
  unfolding stop_call
  stop_keeps p =
      branch (Yields other) _ _ _ (λ y. turned other k 12 d refl v)
      (λ y. branch (Yields other) _ _ _ (λ z. turned other k 6 d refl v)
      (λ z. took other k (begin_stop d) done_stopped stopped_keeps))

  done_committing : IsDone (begin_commit d)
  unfolding begin_commit
  done_committing = either IsDone _ _ _ refl (either IsDone _ _ _ (commit_by IsDone _ refl refl) refl)

  committing_keeps : After k (begin_commit d)
  unfolding begin_commit
  committing_keeps =
      let e = flagged config_pending true d in
      let kept = others k d v e refl v.fitted in
      branch (After k) _ _ _ (λ y. v)
      (λ y. branch (After k) _ _ _
      (λ z. by_flag (free_to_start d.buffers) (λ f. commits k e (record { inv = kept; free = f }))
      (λ f. subst (After k) (sym (commit_waits e f)) kept))
      (λ z. kept))

  commit_keeps : (p : List ℕ) → Yields other (commit_call d p)
  unfolding commit_call
  commit_keeps p =
      branch (Yields other) _ _ _ (λ y. turned other k 12 d refl v) (λ y. took other k (begin_commit d) done_committing committing_keeps)

  fire_keeps : (p : List ℕ) → Yields other (fired_call d p)
  unfolding fired_call
  fire_keeps p =
      branch (Yields other) _ _ _ (λ y. turned other k 12 d refl v)
      (λ y. took other k (handle_interrupt d) (done_handle d) (fires_any k d v))

  declined_call_keeps : (p : List ℕ) → Yields book.declines (declined_call d p)
  unfolding declined_call
  declined_call_keeps p =
      branch (Yields book.declines) _ _ _ (λ y. turned book.declines k 12 d refl v)
      (λ y. branch (Yields book.declines) _ _ _ (λ z. turned book.declines k 11 d refl v)
      (λ z. took book.declines k _ refl
      (declined_keeps k d v (not-false (to_complete d.buffers) (is_false (not (to_complete d.buffers)) z)))))

  resume_keeps : (p : List ℕ) → Yields resumes (resume_call d p)
  unfolding resume_call
  resume_keeps p =
      branch (Yields resumes) _ _ _ (λ y. turned resumes k 12 d refl v)
      (λ y. branch (Yields resumes) _ _ _ (λ z. turned resumes k 22 d refl v)
      (λ z. took resumes k _ refl
      (resumed_keeps k d v (not-false (to_resume d.buffers) (is_false (not (to_resume d.buffers)) z)))))

  completion_keeps : (xs p : List ℕ) → Yields completes (completion_call d xs p)
  unfolding completion_call completing
  completion_keeps xs p =
      branch (Yields completes) _ _ _ (λ y. turned completes k 12 d refl v)
      (λ y. branch (Yields completes) _ _ _ (λ z. turned completes k 11 d refl v)
      (λ z. branch (Yields completes) _ _ _ (λ w. turned completes k 13 d refl v)
      (λ w. took completes k (completed _ d) (done_completed _ d)
      (completed_keeps k _ d v (not-false (to_complete d.buffers) (is_false (not (to_complete d.buffers)) z))))))

  reset_keeps : (b : Bool) → Entered other k (reset_call d b)
  unfolding reset_call
  reset_keeps b =
      branch (Entered other k) _ _ _
      (λ y. took other k _ refl (others k d v (flagged transmitting false d) refl (unsent.gives (of d) v.fitted tt tt)))
      (λ y. turned other k 14 d refl v)

  setting_keeps : (e : Driver) → e.buffers ≡ d.buffers → of e ≡ of d → Entered other k (quiet e (actions []))
  setting_keeps e q f =
      took other k (quiet e (actions [])) refl (others k d v e q (subst (λ c. T (fit c)) (sym f) v.fitted))

  power_keeps : (t : ℤ) → Entered other k (set_power d t)
  unfolding set_power
  power_keeps t = branch (Entered other k) _ _ _ (λ y. setting_keeps _ refl refl) (λ y. turned other k 5 d refl v)

  channel_keeps : (c : ℕ) → Entered other k (set_channel d c)
  unfolding set_channel
  channel_keeps c = branch (Entered other k) _ _ _ (λ y. setting_keeps _ refl refl) (λ y. turned other k 5 d refl v)

  -- ---- lending

  -- the lengths with a transmit buffer taken in: none was there, and 3, 4 and 7 did not refuse it
  lengths_sent : (b l n : ℕ) → T (not (ltb 160 l)) → T (not (leb l (n + 4))) → T (not (ltb 125 n))
      → is_some (rec.tx_under_way d.buffers.under) ≡ false
      → Lengths (with_tx_len (n + 2) (with_tx (Some (lent b l)) d.buffers))
  lengths_sent b l n h s m e =
      let g = v.lengths in
      let most = ltb-false 160 l (is_false (ltb 160 l) h) in
      let room = leb-false l (n + 4) (is_false (leb l (n + 4)) s) in
      let long = ltb-false 125 n (is_false (ltb 125 n) m) in
      let tx : tx_length_bad (Some (lent b l)) (n + 2) ≡ false =
      rw (
        le-leb 2 (n + 2) (omega arith),
        le-leb (n + 2) 127 (omega arith),
        le-leb (n + 2 + 3) l (omega arith),
        le-leb l 160 (omega arith),
      )
      in
      let none = empty_is (rec.tx_under_way d.buffers.under) e in
      search rules

  lengths_received : (b l : ℕ) → T (not (ltb 160 l)) → T (not (ltb l 129)) → length (append (line d.buffers) (lent b l)) ≤ line_room
      → Lengths (with_line (append (line d.buffers) (lent b l)) d.buffers)
  lengths_received b l h s few =
      let g = v.lengths in
      let most = ltb-false 160 l (is_false (ltb 160 l) h) in
      let least = ltb-false l 129 (is_false (ltb l 129) s) in
      let m = line d.buffers in
      let one : receive_length_bad (lent b l) ≡ false = rw (le-leb 129 l (omega arith), le-leb l 160 (omega arith)) in
      lengths_line (append m (lent b l)) d.buffers few (any_append receive_length_bad m (lent b l) ∙ rw (g.rx, one) refl) g

  done_transmitting : (b l n : ℕ) → IsDone (begin_transmit d b l n)
  unfolding begin_transmit
  done_transmitting b l n = either IsDone _ _ _ refl refl

  -- a transmit buffer is taken in, and where the driver is ready the send begins
  transmitting_keeps : (b l n : ℕ) → T (not (handle_bad b l)) → T (not (tx_busy d)) → T (not (leb l (n + 4))) → T (not (ltb 125 n))
      → T (not (record_has d.buffers b))
      → After (called (lends_transmit b) k) (begin_transmit d b l n)
  unfolding begin_transmit
  transmitting_keeps b l n h y s m r =
      let t = is_some d.buffers.tx_buf in
      let u = d.buffers.under in
      let e = flagged transmitting true (with_buffers (with_tx_len (n + 2) (with_tx (Some (lent b l)) d.buffers)) d) in
      let none = is_false t (nor_left t _ y) in
      let sends = nor_left (is_some (rec.tx_under_way u)) (flag transmitting d.flags) (nor_right t _ y) in
      let unsent = is_false (is_some (rec.tx_under_way u)) sends in
      let free : T (not (t || (eqb (frame_of (kind u)) 2 || flag transmitting d.flags))) =
      subst (λ x. T (not (t || (x || flag transmitting d.flags)))) (unsent ∙ sym (not_writing u (of d) v.fitted refl refl unsent none)) y in
      let low = ltb-false 15 b (is_false (ltb 15 b) (nor_left (ltb 15 b) (ltb 160 l) h)) in
      let w : Inv (called (lends_transmit b) k) e =
      record {
        match =
            lends_tx d.buffers k v.match (lent b l) (n + 2) (omega arith) none unsent
            (is_false (record_has d.buffers b) r);
        fitted = tx_fits.gives (of d) v.fitted tt free;
        lengths = lengths_sent b l n (nor_right (ltb 15 b) (ltb 160 l) h) s m unsent;
      } in
      branch (After (called (lends_transmit b) k)) _ _ _
      (λ z. asks_any _ e w (with_state TX_STATUS_PRECHECK1 e) refl transfer.RegisterRead _ _ refl refl
      (join_33.gives (of d) v.fitted tt
      (pair (not (t || (eqb (frame_of (kind u)) 2 || flag transmitting d.flags))) (eqb (state_no d.state) 29) free
      (right (not (flag receiving d.flags)) (eqb (state_no d.state) 29) z))))
      (λ z. w)

  transmit_keeps : (b l n : ℕ) (p : List ℕ) → Yields (lends_transmit b) (transmit_call d b l n p)
  unfolding transmit_call
  transmit_keeps b l n p =
      let f = lends_transmit b in
      branch (Yields f) _ _ _ (λ x. turned f k 12 d refl v)
      (λ x. branch (Yields f) _ _ _ (λ y. turned f k 7 d refl v)
      (λ h. branch (Yields f) _ _ _ (λ y. turned f k 1 d refl v)
      (λ o. branch (Yields f) _ _ _ (λ y. turned f k 2 d refl v)
      (λ y. branch (Yields f) _ _ _ (λ z. turned f k 3 d refl v)
      (λ s. branch (Yields f) _ _ _ (λ z. turned f k 4 d refl v)
      (λ m. branch (Yields f) _ _ _ (λ z. turned f k 8 d refl v)
      (λ r. took f k (begin_transmit d b l n) (done_transmitting b l n) (transmitting_keeps b l n h y s m r))))))))

  -- a receive buffer is taken in at the end of the line
  room_for : (x : Lent) → leb line_room (receive_count d.buffers) ≡ false → length (append (line d.buffers) x) ≤ line_room
  room_for x e = omega (arith, length_append (line d.buffers) x, leb-false line_room (receive_count d.buffers) e)

  in_line_is : (x : Lent) → of (with_buffers (with_line (append (line d.buffers) x) d.buffers) d) ≡ holding (of d).tx true (of d)
  in_line_is x = rw (some_is (append (line d.buffers) x) ∙ some_append (line d.buffers) x) refl

  receive_keeps : (b l : ℕ) → Entered (lends_receive b) k (receive_buffer_call d b l)
  unfolding receive_buffer_call
  receive_keeps b l =
      let f = lends_receive b in
      branch (Entered f k) _ _ _ (λ y. turned f k 7 d refl v)
      (λ h. branch (Entered f k) _ _ _ (λ y. turned f k 9 d refl v)
      (λ s. branch (Entered f k) _ _ _ (λ y. turned f k 10 d refl v)
      (λ y. branch (Entered f k) _ _ _ (λ z. turned f k 8 d refl v)
      (λ r. let low = ltb-false 15 b (is_false (ltb 15 b) (nor_left (ltb 15 b) (ltb 160 l) h)) in
      let few = is_false (leb line_room (receive_count d.buffers)) y in
      let fits = room_for (lent b l) few in
      took f k _ refl (record {
        match = lends_rx d.buffers k v.match (lent b l) (omega arith) few (is_false (record_has d.buffers b) r);
        fitted = subst (λ c. T (fit c)) (sym (in_line_is (lent b l))) (in_line.gives (of d) v.fitted tt tt);
        lengths = lengths_received b l (nor_right (ltb 15 b) (ltb 160 l) h) s fits;
      })))))

  -- every call
  pub keeps : (c : Call) (p : List ℕ) → Entered (fed c) k (yields d c p)
  unfolding made
  keeps start p = start_keeps p
  keeps stop p = stop_keeps p
  keeps commit p = commit_keeps p
  keeps fire p = fire_keeps p
  keeps query p = setting_keeps d refl refl
  keeps declined p = declined_call_keeps p
  keeps resume p = resume_keeps p
  keeps (complete xs) p = completion_keeps xs p
  keeps (transmit b l n) p = transmit_keeps b l n p
  keeps (receive_buffer b l) p = receive_keeps b l
  keeps (reset b) p = reset_keeps b
  keeps (address a) p = setting_keeps _ refl refl
  keeps (pan a) p = setting_keeps _ refl refl
  keeps (channel c) p = channel_keeps c
  keeps (address_long l) p = setting_keeps _ refl refl
  keeps (power t) p = power_keeps t
  keeps (listener x b) p = setting_keeps _ refl refl
