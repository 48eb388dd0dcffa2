-- What `received_length` needs of a driver (`Agrees`): the frame read that was seen to begin is the one under way in the driver's record;
-- from the end of a length read to the announcement the length that it brought is the held one, of the first buffer in turn; and so for the
-- frame read that follows it, where the frame is not spoiled. A step that goes no further in a reception keeps it (`goes_on`). Assumes
-- nothing.
use Rattle.std.proofs.Common.{◌≡◌, ℕ, Bool, true, false, ◌&&◌, T, eqb, leb, cond, []}
use Rattle.std.proofs.Common.{sym, ap, ◌∙◌, arith}
use Rattle.std.specs.Prelude.{Option, None, Some}
use Rattle.rf233.specs.Action.{actions}
use Rattle.rf233.specs.Choice.{within}
use Rattle.rf233.specs.Described.{frame_no}
use Rattle.rf233.specs.Line.{front}
use Rattle.rf233.specs.OneBuffer.{in_turn}
use Rattle.rf233.specs.Record.{buffer_in}
use Rattle.rf233.specs.Starter.{begun, register_transfer, refrains}
use Rattle.rf233.specs.State.{state_no}
use Rattle.rf233.specs.Step.{quiet, step_of}
use Rattle.rf233.specs.Transfer.{free_to_start, kind_value}
use Rattle.rf233.specs.declared.answer.Outcome.{Outcome}
use Rattle.rf233.specs.declared.driver.Driver.{Driver}
use Rattle.rf233.specs.declared.driver.Under.{Under}
use Rattle.rf233.specs.declared.driver.Under.TheVariants.{Idle, Register, FrameRead, FrameWrite, Waits}
use Rattle.rf233.specs.declared.reception.Reception.{Reception}
use Rattle.rf233.specs.declared.starter.Started.{Started}
use Rattle.rf233.specs.declared.transfer.Transfer.{Transfer}
use Rattle.rf233.specs.declared.transfer.TransferKind.{TransferKind}
use Rattle.custody.specs.ReceivedLength.{Going, Read, Reads, begins, stepped}
use Rattle.laws.proofs.Logic.{is_true, left}
use Rattle.rf233.proofs.ChoiceLaws.{branch}
use Rattle.rf233.proofs.InTurn.{register_turn}
use Rattle.rf233.proofs.OwnBuffers.{idle_is, found_none}
use Rattle.rf233.proofs.RowLaws.{register_by}

-- ---- what was seen, and the driver

-- the frame read that is under way, in state n
abbrev pub going_of : Under → ℕ → Option Going
going_of Idle n = None
going_of Register n = None
going_of (FrameRead x) n = Some (record { buffer = x.buffer; of_length = eqb n 63 })
going_of (FrameWrite x) n = None
going_of (Waits o) n = None

-- what was seen of the read under way agrees with transfer u in state n, where spi_buf has the length w: a frame read, also one that waits,
-- is of the length alone exactly in 63
pub record GoingAt (g : Option Going) (u : Under) (n w : ℕ) : Type 0 where
  pub same : g ≡ going_of u n
  pub short : frame_no u ≡ 1 → eqb w 2 ≡ eqb n 63

-- where no frame read is under way or waits
pub no_read_going : {g : Option Going} {n w : ℕ} → g ≡ None → GoingAt g Idle n w
no_read_going e = record { same = e; short = λ q. absurd (omega (arith, q)) }

-- the first buffer in turn
abbrev pub first : Driver → ℕ
first d = buffer_in (front (in_turn d.buffers))

-- a read into it that brought the held length
abbrev pub held_read : Driver → Option Read
held_read d = Some (record { buffer = first d; byte = d.reception.length })

-- the length read is over, and the frame is not yet announced; the frame read is over likewise
abbrev pub length_over : ℕ → Bool
length_over n = within 64 68 n

abbrev pub frame_over : ℕ → Bool
frame_over n = within 66 68 n

pub frame_length : (n : ℕ) → T (frame_over n) → T (length_over n)
frame_length n t = grind arith

pub frame_65 : (n : ℕ) → T (frame_over n) → T (leb 65 n && leb n 68)
frame_65 n t = grind arith

-- with the transfer u under way or waiting in state n, w the length of spi_buf, b the first buffer in turn, and e kept of a reception
pub record AgreesAt (s : Reads) (u : Under) (n w b : ℕ) (e : Reception) : Type 0 where
  pub going : GoingAt s.going u n w
  pub length : T (length_over n) → s.length ≡ Some (record { buffer = b; byte = e.length })
  pub frame : T (frame_over n) → e.spoiled ≡ false → s.frame ≡ Some (record { buffer = b; byte = e.length })
  pub right : s.wrong ≡ false

abbrev pub Agrees : Reads → Driver → Type 0
Agrees s d = AgreesAt s d.buffers.under (state_no d.state) d.buffers.spi_buf_len (first d) d.reception

-- the driver e is what a step makes of d: no further in a reception, with the same buffer first, and with what was kept of it
pub record Onward (d e : Driver) : Type 0 where
  pub length : T (length_over (state_no e.state)) → T (length_over (state_no d.state))
  pub frame : T (frame_over (state_no e.state)) → T (frame_over (state_no d.state))
  pub same_first : T (length_over (state_no e.state)) → first e ≡ first d
  pub reception : e.reception ≡ d.reception

-- a transfer that begins alters the read under way alone
begins_by : (P : Reads → Type 0) (s : Reads) (t : Option Transfer) → ((g : Option Going) → P (record s { going = g })) → P (begins t s)
begins_by P s None p = p s.going
begins_by P s (Some t) p = go (eqb (kind_value t.kind) 3)
  where
    go : (v : Bool) → P (cond v (record s { going = Some (record { buffer = t.read; of_length = eqb t.second 0 }) }) s)
    go true = p _
    go false = p s.going

module _ {s : Reads} (d e : Driver) (g : Agrees s d) (o : Onward d e) where
  abbrev read_same : T (length_over (state_no e.state)) → held_read d ≡ held_read e
  read_same t =
      ap (λ b. Some (record { buffer = b; byte = d.reception.length })) (sym (o.same_first t))
      ∙ ap (λ (r : Reception). Some (record { buffer = first e; byte = r.length })) (sym o.reception)

  -- so what was seen agrees with it, where the read under way does
  pub goes_on : (t : Option Transfer) → GoingAt (begins t s).going e.buffers.under (state_no e.state) e.buffers.spi_buf_len
      → Agrees (begins t s) e
  goes_on t z =
      let n = state_no e.state in
      record {
        going = z;
        length = λ h. begins_by (λ s. s.length ≡ held_read e) s t (λ w. g.length (o.length h) ∙ read_same h);
        frame = λ h q.
            begins_by (λ s. s.frame ≡ held_read e) s t
            (λ w. g.frame (o.frame h) (ap (λ (r : Reception). r.spoiled) (sym o.reception) ∙ q) ∙ read_same (frame_length n h));
        right = begins_by (λ s. s.wrong ≡ false) s t (λ w. g.right);
      }

-- ---- a register transfer that is asked for, whatever is under way

module _ (s : Reads) where
  -- the read under way, once a starter has done its part
  abbrev pub Goes : Started → Type 0
  Goes t = GoingAt (begins (begun t.answer) s).going t.driver.buffers.under (state_no t.driver.state) t.driver.buffers.spi_buf_len

  -- before it, and where it does not begin
  abbrev pub Stands : Driver → Type 0
  Stands e = GoingAt s.going e.buffers.under (state_no e.state) e.buffers.spi_buf_len

  pub refrains_going : (e : Driver) → Stands e → Goes (refrains e)
  refrains_going e g = rw (found_none e.buffers.under) g

  pub register_going : (e : Driver) → Stands e → (k : TransferKind) (x y : ℕ)
      → eqb (kind_value k) 3 ≡ false → Goes (register_transfer k x y e)
  unfolding register_transfer
  register_going e g k x y z =
      let b = e.buffers in
      branch Goes _ _ _
      (λ t.
      let f = left (free_to_start b) b.spi_tx (left (free_to_start b && b.spi_tx) b.spi_rx t) in
      let i = idle_is b.under (is_true (free_to_start b) f) in
      rw z (record { same = g.same ∙ ap (λ u. going_of u (state_no e.state)) i; short = λ q. absurd (omega (arith, q)) }))
      (λ t. refrains_going e g)

  abbrev pub After : Outcome → Type 0
  After o = Agrees (stepped o.reply s) o.driver

  pub asks : (d e : Driver) → Agrees s d → Onward d e → Stands e → (k : TransferKind) (x y : ℕ)
      → eqb (kind_value k) 3 ≡ false → After (step_of (register_transfer k x y e) (actions []))
  asks d e g o r k x y z =
      goes_on d (register_transfer k x y e).driver g (record {
        length = register_by (λ f. T (length_over (state_no f.state)) → T (length_over (state_no d.state))) e (λ b. o.length) k x y;
        frame = register_by (λ f. T (frame_over (state_no f.state)) → T (frame_over (state_no d.state))) e (λ b. o.frame) k x y;
        same_first = λ h.
            let at_e : Driver → Type 0 = λ f. T (length_over (state_no f.state)) → T (length_over (state_no e.state)) in
            ap (λ l. buffer_in (front l)) (register_turn k x y e) ∙ o.same_first (register_by at_e e (λ b t. t) k x y h);
        reception = register_by (λ f. f.reception ≡ d.reception) e (λ b. o.reception) k x y;
      }) (begun (register_transfer k x y e).answer) (register_going e r k x y z)

  pub rests : (d e : Driver) → Agrees s d → Onward d e → Stands e → After (quiet e (actions []))
  rests d e g o r = goes_on d e g o None r
