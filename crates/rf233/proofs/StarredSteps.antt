-- Steps as the starred cases of document 01 meet them: a call that refusal 12 does not stop, the bytes of a register transfer in the pool,
-- a completion on its way to the state's own case, and a state whose case is one register write. Assumes nothing.
use mathlib.Core.Path.{◌≡◌, refl, ap, ◌∙◌}
use mathlib.Core.Bool.{Bool, true, false, cond, ◌||◌, and-false}
use mathlib.Core.List.{List, []}
use Prim.Native.Nat.{ℕ}
use native.Mathlib.Omega.{arith}
use lib.Dec.{eqb, ltb}
use lib.ListN.{length, get_or, set, length-set}
use lib.Seq.{get_or-set_same, get_or-set_other}
use borrow.Author.Tests.{eq-eqb, ltb-false}
use Rattle.std.specs.Prelude.{Some}
use Rattle.rf233_const.specs.Command as command
use Rattle.rf233_const.specs.Register.{register_address}
use Rattle.rf233_const.specs.declared.register.RF233Register.{RF233Register}
use Rattle.rf233.specs.Choice.{pick}
use Rattle.rf233.specs.Driver.{with_command}
use Rattle.rf233.specs.Guard.{Called, accepted, stepping, guarded}
use Rattle.rf233.specs.Described.{described}
use Rattle.rf233.specs.Kernel.{completing, completion_call}
use Rattle.rf233.specs.Completion.{completed, ready_bookkeeping, pending_interrupt, waiting_commit}
use Rattle.rf233.specs.Completion.{frame_done, length_taken, transfer_over}
use Rattle.rf233.specs.Case.{case_of, perform, tree_at}
use Rattle.rf233.specs.Pool.{command_written, copied, read_buffer, shorter}
use Rattle.rf233.specs.Rows.{eval}
use Rattle.rf233.specs.Rows.Access.{writes}
use Rattle.rf233.specs.Rows.Next.{to}
use Rattle.rf233.specs.Rows.Row.{does}
use Rattle.rf233.specs.Rows.Tree.{leaf}
use Rattle.rf233.specs.State.{state_no}
use Rattle.rf233.specs.Transfer.{kind_value, transfer_of, under_way}
use Rattle.rf233.specs.Starter.{register_transfer, command_of}
use Rattle.rf233.specs.Write.{value_of}
use Rattle.rf233.specs.declared.answer.Outcome.{Outcome}
use Rattle.rf233.specs.declared.driver.Buffers.{Buffers}
use Rattle.rf233.specs.declared.driver.Driver.{Driver}
use Rattle.rf233.specs.declared.driver.Under.{Under}
use Rattle.rf233.specs.declared.driver.Under.TheVariants.{Register}
use Rattle.rf233.specs.declared.transfer.TransferKind.{TransferKind}
use Rattle.rf233.specs.declared.transfer.TransferKind.TheVariants as kind
use Rattle.rf233.specs.declared.write.Value.{Value}
use Rattle.rf233.specs.declared.state.InternalState.{InternalState}
use Rattle.laws.proofs.Logic.{none_right}
use Rattle.rf233.specs.Arrived.{arrived_of}
use Rattle.rf233.proofs.Accepted.{done_is_accepted, done_completed}
use Rattle.rf233.proofs.OwnBuffers.{Plain, moved, same_record}
use Rattle.rf233.proofs.PoolLaws.{command_written_length, copied_length}
use Rattle.rf233.proofs.Sound.{read_fits, shorter_fits}
use Rattle.rf233.proofs.Starred.{Passes12, In, Accepts, Completes, Sends}

-- a call that 12 does not stop
pub unguarded : (d : Driver) (p : List ℕ) (c : Called) → Passes12 d p → guarded d p c ≡ c
unfolding pick
unguarded d p c h = rw (eq-eqb (length p) 3040 h.pool, h.fit)

-- the bytes of a register transfer in a pool of 3,040
bytes : (k : TransferKind) (first second : ℕ) (q : List ℕ) → length q ≡ 3040 → ltb (kind_value k) 3 ≡ true
    → (get_or (command_written (Some (transfer_of k 16 17 first second 2 2)) q) 2560 0 ≡ first)
    × (get_or (command_written (Some (transfer_of k 16 17 first second 2 2)) q) 2561 0 ≡ second)
unfolding command_written pick
bytes k first second q l f = (
  rw (f, get_or-set_other (set q 2560 first) 2561 2560 second 0 (λ x. omega arith), get_or-set_same q 2560 first 0 (omega arith)),
  rw (f, get_or-set_same (set q 2560 first) 2561 second 0 (rw (length-set) (omega arith))),
)

-- a step that starts a register transfer sends it
pub sends : {k : TransferKind} {first second n : ℕ} (o : Outcome) (q : List ℕ) → length q ≡ 3040 → ltb (kind_value k) 3 ≡ true
    → o.reply.transfer ≡ Some (transfer_of k 16 17 first second 2 2) → In n o.driver → Sends k first second n (stepping o q)
sends {k} {first} {second} o q l f t s =
    let b = bytes k first second q l f in
    record { transfer = t; byte_0 = rw t b.0; byte_1 = rw t b.1; state = s }

-- the pool with the arrived bytes
abbrev pub brought : Driver → List ℕ → List ℕ → List ℕ
brought d xs p = copied (read_buffer d.buffers.under) xs p

module _ {d : Driver} {xs p : List ℕ} (h : Accepts d xs p) where
  pub still : length (brought d xs p) ≡ 3040
  still =
      copied_length (read_buffer d.buffers.under) xs p
      (let f = ltb-false (shorter d.buffers) (length xs) (none_right (ltb (length xs) 2) _ h.arrived) in
      omega (arith, read_fits d h.passes.fit, shorter_fits d h.passes.fit, h.passes.pool))
      ∙ h.passes.pool

  -- the step is made
  pub accepted_step : completion_call d xs p ≡ stepping (completed (arrived_of xs) d) (brought d xs p)
  unfolding completion_call completing pick
  accepted_step = rw (unguarded d p _ h.passes, h.arrived, h.has_transfer)

  pub is_accepted : accepted (completion_call d xs p) ≡ true
  is_accepted = ap accepted accepted_step ∙ done_is_accepted (completed (arrived_of xs) d) (done_completed (arrived_of xs) d)

-- a completion while no interrupt is being handled or pending
module _ {u : Under} {n : ℕ} {d : Driver} {xs p : List ℕ} (h : Completes u n d xs p) where
  pub accepts : under_way u ≡ true → Accepts d xs p
  accepts i = record { passes = h.passes; has_transfer = ap under_way h.is_under_way ∙ i; arrived = h.arrived }

  -- outside READY it is the own case of the state m that the transfer leaves
  pub straight : (m : ℕ) → under_way u ≡ true → state_no (frame_done false d.state) ≡ m → eqb m 29 ≡ false
      → completion_call d xs p ≡ stepping (case_of m (arrived_of xs) (transfer_over (length_taken (arrived_of xs) d))) (brought d xs p)
  unfolding completed ready_bookkeeping pending_interrupt waiting_commit pick
  straight m i s e =
      rw (accepted_step (accepts i), h.handling, s, e, h.pending, and-false)

-- the end of a register transfer moves the state only where a state names a frame transfer
unframed : (a b c : Bool) (x y z s : InternalState) → ◌≡◌ {A = ℕ} (cond a 2 (cond (b || (c || false)) 1 0)) 0
    → pick a x (pick b y (pick c z s)) ≡ s
unfolding pick
unframed true b c x y z s e = absurd (omega arith)
unframed false true c x y z s e = absurd (omega arith)
unframed false false true x y z s e = absurd (omega arith)
unframed false false false x y z s e = refl

pub unmoved : (n : ℕ) (s : InternalState) → Plain n → state_no s ≡ n → frame_done false s ≡ s
unfolding frame_done pick
unmoved n s c e = rw e (unframed (eqb n 34) (eqb n 63) (eqb n 65) _ _ _ s c.names)

-- a step that sends a register write and goes on from there: record and settings are as before, but for the command that is kept, and no
-- interrupt is handled or pending
pub record Goes (first second n : ℕ) (d : Driver) (c : Called) : Type 0 where
  pub sent : Sends kind.RegisterWrite first second n c
  pub pool : length c.pool ≡ 3040
  pub buffers : c.outcome.driver.buffers ≡ with_command (command_of kind.RegisterWrite first second) d.buffers
  pub settings : c.outcome.driver.settings ≡ d.settings
  pub handling : c.outcome.driver.flags.interrupt_handling ≡ false
  pub pending : c.outcome.driver.flags.interrupt_pending ≡ false

-- the next completion, of two bytes, finds what it needs
pub next : {n m first second : ℕ} {d : Driver} {c : Called} (ys : List ℕ) → Plain n → Plain m → described d ≡ false → In n d
    → d.buffers.under ≡ Register → Goes first second m d c
    → length ys ≡ 2 → Completes Register m c.outcome.driver ys c.pool
next {n} {m} {d = d} {c = c} ys f g fit s h e l =
    let u = ap (λ (b : Buffers). b.under) e.buffers ∙ h in
    record {
      passes = record { pool = e.pool; fit = moved n m d c.outcome.driver _ f g s e.sent.state h e.buffers ∙ fit };
      state = e.sent.state;
      is_under_way = u;
      arrived = rw (u, l);
      handling = e.handling;
      pending = e.pending;
    }

-- a state whose case is one register write: the completion sends it
module _ {n : ℕ} {r : RF233Register} {v : Value} {s : InternalState} {d : Driver} {xs p : List ℕ} where
  pub write_case : Plain n → eqb n 29 ≡ false → tree_at n ≡ leaf (does [] (writes r v) (to s) []) → Completes Register n d xs p
      → Goes (command.register_write (register_address r)) (value_of v d.settings) (state_no s) d (completion_call d xs p)
  unfolding case_of eval perform register_transfer pick
  write_case c f t h =
      rw (straight h n refl (rw (unmoved n d.state c h.state) h.state) f, t)
      (record {
        sent = sends _ _ (still (accepts h refl)) refl (rw h.is_under_way) (rw h.is_under_way);
        pool = command_written_length _ _ ∙ still (accepts h refl);
        buffers = same_record d h.passes.fit _ _ h.is_under_way (rw h.is_under_way);
        settings = rw h.is_under_way;
        handling = rw h.is_under_way;
        pending = rw h.is_under_way h.pending;
      })
