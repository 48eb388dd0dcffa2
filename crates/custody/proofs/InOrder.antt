-- A step keeps the queue of the driver's receive buffers in turn: by its row, which turns the line only where there is no receive listener
-- (`rows_quiet`), and by its access, which reads into the first of them. Beside it goes the invariant of Custody.antt. Assumes nothing.
use Rattle.std.proofs.Common.{◌≡◌, ℕ, Bool, true, false, not, ◌&&◌, T, eqb, leb, List, [], ◌∷◌, length}
use Rattle.std.proofs.Common.{sym, refl, ap, ◌∙◌, subst, arith, leb→le, le_trans}
use Rattle.std.specs.List.{fold}
use Rattle.std.specs.Prelude.{Option, None, Some, cond}
use Rattle.rf233.specs.Action.{actions}
use Rattle.rf233.specs.Case.{accessed, case_of, entering, handed, own_case, perform, shown, tree_at, trees, without_front, without_tx}
use Rattle.rf233.specs.Completion.{completed, length_taken, transfer_over}
use Rattle.rf233.specs.Decline.{again}
use Rattle.rf233.specs.Driver.{assigning, with_buffers}
use Rattle.rf233.specs.Interrupt.{handle_interrupt}
use Rattle.rf233.specs.Line.{names, front, line, some}
use Rattle.rf233.specs.Record.{buffer_in}
use Rattle.rf233.specs.Rows.{Access, Row, Shown}
use Rattle.rf233.specs.Rows.Access.{none, reads, reads_frame, reads_length, writes, writes_frame}
use Rattle.rf233.specs.Rows.Row.{does}
use Rattle.rf233.specs.Rows.Shown.{config_done, dropped_back, plain, power_changed, received_back, received_kept, sent_back}
use Rattle.rf233.specs.Starter.{begun, frame_read_into, frame_write_from, register_transfer, refrains, command_kind}
use Rattle.rf233.specs.State.{state_no}
use Rattle.rf233.specs.Step.{quiet, step_of}
use Rattle.rf233.specs.Transfer.{free_to_start, kind_value}
use Rattle.rf233.specs.declared.action.Action.{Action}
use Rattle.rf233.specs.declared.action.Actions.{Actions}
use Rattle.rf233.specs.declared.answer.Outcome.{Outcome}
use Rattle.rf233.specs.declared.arrived.Arrived.{Arrived}
use Rattle.rf233.specs.declared.driver.Buffers.{Buffers}
use Rattle.rf233.specs.declared.driver.Clients.{Clients}
use Rattle.rf233.specs.declared.driver.Command.{Command}
use Rattle.rf233.specs.declared.driver.Driver.{Driver}
use Rattle.rf233.specs.declared.driver.Lent.{Lent}
use Rattle.rf233.specs.declared.driver.Offer.TheVariants as offer
use Rattle.rf233.specs.declared.driver.Under.{Under}
use Rattle.rf233.specs.declared.driver.Under.TheVariants.{Idle, FrameRead, FrameWrite, Waits, Register}
use Rattle.rf233.specs.declared.transfer.Transfer.{Transfer}
use Rattle.rf233.specs.declared.transfer.TransferKind.{TransferKind}
use Rattle.rf233.specs.declared.transfer.TransferKind.TheVariants as transfer
use Rattle.custody.specs.Book.{Page}
use Rattle.custody.specs.OldestFirst.{Queue, handed_back, read_into, stepped, told}
use Rattle.laws.proofs.Logic.{all, all_at, all_below, below_at, is_true, left, right}
use Rattle.rf233.proofs.ChoiceLaws.{either}
use Rattle.rf233.proofs.DeclineLaws.{by_command}
use Rattle.rf233.proofs.EveryStep.{Ends, Kept, commit_by, completion_by, every_access}
use Rattle.rf233.proofs.Facts.{Facts, holding, of, settled, settled_is}
use Rattle.rf233.proofs.Fit.{harmless, ok_row, ok_shown, row_fits}
use Rattle.rf233.proofs.Keys.{state_below}
use Rattle.rf233.proofs.LineLaws.{front_behind, listed_behind}
use Rattle.rf233.proofs.OwnBuffers.{idle_is, found_none}
use Rattle.rf233.specs.OneBuffer.{in_turn}
use Rattle.rf233.proofs.InTurn.{access_turn, register_turn, again_turn}
use Rattle.rf233.specs.declared.starter.Started.{Started}
use Rattle.rf233.proofs.RowLaws.{entering_clients, entering_record}
use Rattle.rf233.proofs.Trees.{Known, known, leaves, row_known, row_of, same_self}
use Rattle.custody.proofs.Actions.{Of, fewer, full_line, moved_of, padded_same, sent_of}
use Rattle.custody.proofs.BookLaws.{same as same_no}
use Rattle.custody.proofs.Custody.{handed_free}
use Rattle.custody.proofs.Phases.{Rest}
use Rattle.custody.proofs.Phases as phases

-- the queue of these, in which nothing was wrong
abbrev pub right_queue : List Lent → Queue
right_queue l = record { accepted = names l; wrong = false }

-- ---- what a step that started with the buffers q in turn and the listeners k leaves

pub record Went (q : List Lent) (k : Clients) (o : Outcome) : Type 0 where
  pub queue : stepped o.reply (right_queue q) ≡ right_queue (in_turn o.driver.buffers)
  pub clients : o.driver.clients ≡ k

-- its transfer reads into the first of them, if it is a frame read
record Names (q : List Lent) (k : Clients) (t : Option Transfer) (e : Driver) : Type 0 where
  first : read_into t (right_queue q) ≡ right_queue q
  clients : e.clients ≡ k

module _ (q : List Lent) (k : Clients) where
  abbrev Starts : Started → Type 0
  Starts s = Names q k (begun s.answer) s.driver

  refrained : (e : Driver) → e.clients ≡ k → Starts (refrains e)
  refrained e c = rw (found_none e.buffers.under) (record { first = refl; clients = c })

  register_names : (e : Driver) → e.clients ≡ k → (n : TransferKind) (x y : ℕ) → eqb (kind_value n) 3 ≡ false
      → Starts (register_transfer n x y e)
  unfolding register_transfer
  register_names e c n x y z = either Starts _ _ _ (record { first = rw z refl; clients = c }) (refrained e c)

  -- a register transfer is asked for, whatever is under way
  pub asks : (e : Driver) → in_turn e.buffers ≡ q → e.clients ≡ k → (n : TransferKind) (x y : ℕ) → eqb (kind_value n) 3 ≡ false
      → Went q k (step_of (register_transfer n x y e) (actions []))
  asks e s c n x y z =
      let t = register_names e c n x y z in
      record { queue = t.first ∙ ap right_queue (sym (register_turn n x y e ∙ s)); clients = t.clients }

  pub rests : (e : Driver) → in_turn e.buffers ≡ q → e.clients ≡ k → Went q k (quiet e (actions []))
  rests e s c = record { queue = rw (← s) refl; clients = c }

-- ---- a row's access, where no transfer is under way

module _ (k : Clients) (e : Driver) (i : e.buffers.under ≡ Idle) (c : e.clients ≡ k) where
  abbrev Begins : Started → Type 0
  Begins = Starts (in_turn e.buffers) k

  read_names : (s : Option Lent) (n : ℕ) → front (line e.buffers) ≡ s → Begins (frame_read_into s n e)
  unfolding frame_read_into
  read_names None n f = refrained (in_turn e.buffers) k e c
  read_names (Some x) n f =
      either Begins _ _ _ (record { first = rw (i, front_behind (line e.buffers) x f, same_no x.buffer) refl; clients = c })
      (refrained (in_turn e.buffers) k e c)

  write_names : (s : Option Lent) → Begins (frame_write_from s e)
  unfolding frame_write_from
  write_names None = refrained (in_turn e.buffers) k e c
  write_names (Some x) = either Begins _ _ _ (record { first = refl; clients = c }) (refrained (in_turn e.buffers) k e c)

  access_names : (x : Access) (a : Arrived) (l : Actions)
      → Names (in_turn e.buffers) k (accessed x a l e).reply.transfer (accessed x a l e).driver
  access_names none a l = record { first = refl; clients = c }
  access_names (reads r) a l = register_names (in_turn e.buffers) k e c transfer.RegisterRead _ _ refl
  access_names (writes r v) a l = register_names (in_turn e.buffers) k e c transfer.RegisterWrite _ _ refl
  access_names reads_length a l = read_names (front (line e.buffers)) 0 refl
  access_names reads_frame a l = read_names (front (line e.buffers)) e.reception.length refl
  access_names writes_frame a l = write_names e.buffers.tx_buf

  -- what a resume offers again
  again_names : (u : Under) → Begins (again u e)
  again_names Idle = refrained (in_turn e.buffers) k e c
  again_names Register = refrained (in_turn e.buffers) k e c
  again_names (FrameRead x) = refrained (in_turn e.buffers) k e c
  again_names (FrameWrite x) = refrained (in_turn e.buffers) k e c
  again_names (Waits offer.Register) =
      register_names (in_turn e.buffers) k e c _ _ _ (by_command (λ n. eqb (kind_value n) 3 ≡ false) refl refl e.buffers.command)
  again_names (Waits offer.FrameRead) = read_names (front (line e.buffers)) _ refl
  again_names (Waits offer.FrameWrite) = write_names e.buffers.tx_buf

  pub again_went : (u : Under) → Went (in_turn e.buffers) k (step_of (again u e) (actions []))
  again_went u =
      let t = again_names u in
      record { queue = t.first ∙ ap right_queue (sym (again_turn u e i)); clients = t.clients }

-- ---- a row's actions

-- where the listener is there (r), a row keeps no buffer that it could hand back
abbrev kept_quietly : Bool → List Shown → Bool
kept_quietly r [] = true
kept_quietly r (plain x ∷ more) = kept_quietly r more
kept_quietly r (power_changed ∷ more) = kept_quietly r more
kept_quietly r (config_done ∷ more) = kept_quietly r more
kept_quietly r (sent_back ∷ more) = kept_quietly r more
kept_quietly r (dropped_back ∷ more) = kept_quietly r more
kept_quietly r (received_back ∷ more) = kept_quietly r more
kept_quietly r (received_kept ∷ more) = not r && kept_quietly r more

abbrev row_quiet : Bool → Row → Bool
row_quiet r (does l x n s) = kept_quietly r s

-- where it is known whether the receive listener is there
abbrev heard : Bool → Known
heard r = record { fits = None; spoiled = None; sends = None; hears = Some r }

-- THE TEST OF THE ROWS
rows_quiet : T (all_below (λ n. all λ r. leaves (known (heard r)) (row_quiet r) (tree_at n)) 69)
unfolding tree_at trees
rows_quiet = tt

row_is_quiet : (a : Arrived) (d : Driver) → T (row_quiet d.clients.rx_client (row_of a d))
row_is_quiet a d =
    let n = state_no d.state in
    let r = d.clients.rx_client in
    row_known (heard r) (row_quiet r) a d (record { fits = tt; spoiled = tt; sends = tt; hears = same_self r })
    (all_at (λ r. leaves (known (heard r)) (row_quiet r) (tree_at n))
    (below_at (λ n. all λ r. leaves (known (heard r)) (row_quiet r) (tree_at n)) 69 rows_quiet n (state_below d.state)) r)

-- an action that hands nothing back
quietly : (q : Queue) (x : Action) → T (harmless x) → told q x ≡ q
quietly q x h = grind arith

-- a row's actions, entered, leave the queue of the line that they leave; the row is of the driver d, b the record so far
module _ (a : Arrived) (d : Driver) (r : Bool) (hears : T (some (line d.buffers)) → T r) where
  tells : (sh : List Shown) (b : Buffers) (c : Facts) → Of a d c b → T (ok_shown sh c) → T (kept_quietly r sh)
      → fold told (right_queue (line b)) (shown a d sh) ≡ right_queue (line (handed sh b))
  tells [] b c f o h = refl
  tells (plain x ∷ more) b c f o h =
      ap (λ q. fold told q (shown a d more)) (quietly (right_queue (line b)) x (left (harmless x) _ o))
      ∙ tells more b c f (right (harmless x) _ o) h
  tells (power_changed ∷ more) b c f o h =
      let t = tells more b c f o h in
      either (λ z. fold told (right_queue (line b)) z ≡ right_queue (line (handed more b))) _ _ _ t t
  tells (config_done ∷ more) b c f o h =
      let t = tells more b c f o h in
      either (λ z. fold told (right_queue (line b)) z ≡ right_queue (line (handed more b))) _ _ _ t t
  tells (sent_back ∷ more) b c f o h = tells more (without_tx b) (holding false c.rx c) (sent_of a d f) (right c.tx _ o) h
  tells (dropped_back ∷ more) b c f o h = tells more (without_tx b) (holding false c.rx c) (sent_of a d f) (right c.tx _ o) h
  tells (received_back ∷ more) b c f o h =
      let s = f.rx_of (left c.rx _ o) in
      full_line (line b) s.0
      (λ x e.
      let named : buffer_in (front (line d.buffers)) ≡ x.buffer = ap (λ l. buffer_in (front l)) (sym s.1) ∙ ap buffer_in e in
      let gone : handed_back x.buffer (right_queue (line b)) ≡ right_queue (line (without_front b)) =
      rw (front_behind (line b) x e) (rw (listed_behind b.rx_line, same_no x.buffer) refl) in
      ap (λ n. fold told (handed_back n (right_queue (line b))) (shown a d more)) named
      ∙ (ap (λ q. fold told q (shown a d more)) gone
      ∙ tells more (without_front b) (holding c.tx false c) (moved_of a d f refl) (right c.rx _ o) h))
  tells (received_kept ∷ more) b c f o h =
      let s = f.rx_of (left c.rx _ o) in
      absurd (subst (λ v. T (not v)) (is_true r (hears (subst (λ l. T (some l)) s.1 s.0))) (left (not r) _ h))

-- ---- a completion

module _ (p : Page) (q : List Lent) (k : Clients) (hears : T (some q) → T k.rx_client) where
  pub record Ready (d : Driver) : Type 0 where
    pub rest : Rest p d
    pub turn : line d.buffers ≡ q
    pub clients : d.clients ≡ k

  in_turn_is : (d : Driver) → Ready d → in_turn d.buffers ≡ q
  in_turn_is d g = rw (idle_is d.buffers.under g.rest.free) g.turn

  perform_went : (a : Arrived) (d : Driver) → Ready d → (r : Row) → T (ok_row (of d) r)
      → T (row_quiet k.rx_client r) → Went q k (perform r a d)
  unfolding perform
  perform_went a d g (does l x m sh) o h =
      let e = entering m (assigning a.result l d) in
      let c = with_buffers (handed sh e.buffers) e in
      let y = actions (shown a e sh) in
      let b = entering_record m (assigning a.result l d) in
      let turn : line e.buffers ≡ q = ap line b ∙ g.turn in
      let s = ok_shown sh (settled l m (of d)) in
      let few = left (leb (length sh) 6 && s) _ o in
      let six = leb→le (length sh) 6 (left (leb (length sh) 6) s few) in
      let there : T (ok_shown sh (of e)) =
      subst (λ z. T (ok_shown sh z)) (sym (settled_is a.result l m d)) (right (leb (length sh) 6) s few) in
      let free = handed_free sh e.buffers (ap free_to_start b ∙ g.rest.free) in
      let idle = idle_is c.buffers.under free in
      let t = access_names k c idle (entering_clients m a.result l d ∙ g.clients) x a y in
      let o = accessed x a y c in
      let shows : o.reply.actions ≡ y = every_access (λ (o : Outcome). o.reply.actions ≡ y) a y c (λ e t. refl) x in
      let told_so : fold told (right_queue q) y.items ≡ right_queue (line c.buffers) =
      padded_same told (λ q. refl) 6 6 (shown a e sh) (right_queue q) (le_trans (fewer a e sh) six)
      ∙ (ap (λ l. fold told (right_queue l) (shown a e sh)) (sym turn)
      ∙ tells a e k.rx_client (λ f. hears (subst (λ l. T (some l)) turn f)) sh e.buffers (of e)
      (record { tx_of = λ y. (y, refl); rx_of = λ y. (y, refl) }) there h) in
      record {
        queue =
            ap (λ (w : Actions). read_into o.reply.transfer (fold told (right_queue q) w.items)) shows
            ∙ (ap (read_into o.reply.transfer) told_so
            ∙ (rw idle at t.first ∙ ap right_queue (sym (access_turn c idle x a y ∙ rw idle refl))));
        clients = t.clients;
      }

  own_went : (a : Arrived) (d : Driver) → Ready d → Went q k (own_case a d)
  unfolding case_of
  own_went a d g =
      perform_went a d g (row_of a d)
      (row_fits a d g.rest.inv.fitted (phases.rests p d g.rest))
      (subst (λ (k : Clients). T (row_quiet k.rx_client (row_of a d))) g.clients (row_is_quiet a d))

  fires : (d : Driver) → in_turn d.buffers ≡ q → d.clients ≡ k → Went q k (handle_interrupt d)
  unfolding handle_interrupt
  fires d s c =
      either (Went q k) _ _ _
      (either (Went q k) _ _ _ (asks q k _ s c transfer.RegisterWrite _ _ refl) (asks q k _ s c transfer.RegisterRead _ _ refl))
      (rests q k _ s c)

  ready_ends : Ends (Went q k) Ready
  ready_ends =
      record {
        fires = λ d g. fires d (in_turn_is d g) g.clients;
        sends = λ d g s. asks q k _ (in_turn_is d g) g.clients transfer.RegisterRead _ _ refl;
        waits = λ d g. asks q k _ (in_turn_is d g) g.clients transfer.RegisterRead _ _ refl;
        commits = λ d g.
            commit_by (Went q k) d (asks q k _ (in_turn_is d g) g.clients transfer.RegisterWrite _ _ refl)
            (rests q k d (in_turn_is d g) g.clients);
        case = own_went;
      }

  ready_kept : Kept Ready
  ready_kept =
      let kept = phases.kept p in
      record {
        flags = λ f d s h g. record { rest = kept.flags f d s h g.rest; turn = g.turn; clients = g.clients };
        moves = λ a d g. record { rest = kept.moves a d g.rest; turn = g.turn; clients = g.clients };
        reads = λ d h g. record { rest = kept.reads d h g.rest; turn = g.turn; clients = g.clients };
      }

  pub completes : (a : Arrived) (d : Driver) → Ready (transfer_over (length_taken a d)) → Went q k (completed a d)
  completes a d g = completion_by (Went q k) Ready ready_kept ready_ends a d g
