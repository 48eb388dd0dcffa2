-- `six_actions`: a call's reply has at most one transfer, of one of the four kinds, and at most six actions, counted. For completions from
-- one test, computed over the rows of all states (`rows_six`); for the calls by `every_call`. Assumes nothing.
use Rattle.std.proofs.Common.{◌≡◌, ℕ, zero, suc, ◌<◌, ◌≤◌, Bool, true, ◌&&◌, T, leb, List, [], ◌∷◌, ◌++◌, length, get_or, take}
use Rattle.std.proofs.Common.{replicate, refl, arith, leb-true}
use Rattle.std.proofs.lemmas.List.{length-take-le, length-append, length-replicate}
use Rattle.rf233.specs.Decline.{again}
use Rattle.rf233.specs.declared.driver.Offer.TheVariants as offer
use Rattle.rf233.specs.declared.driver.Under.{Under}
use Rattle.rf233.specs.declared.driver.Under.TheVariants.{FrameRead, FrameWrite, Waits, Idle, Register}
use Rattle.laws.proofs.Logic.{left, right, is_true, all_below}
use Rattle.std.specs.Prelude.{Option, None, Some}
use Rattle.rf233.specs.Action.{actions}
use Rattle.rf233.specs.Answer.{answer_of}
use Rattle.rf233.specs.Arrived.{arrived_of}
use Rattle.rf233.specs.Case.{perform, case_of, own_case, shown, accessed, entering, trees, tree_at}
use Rattle.rf233.specs.Completion.{completed}
use Rattle.rf233.specs.Driver.{assigning}
use Rattle.rf233.specs.Interrupt.{handle_interrupt}
use Rattle.rf233.specs.Rows.{Access, Row}
use Rattle.rf233.specs.Line.{line, front}
use Rattle.rf233.specs.Rows.Access.{none, reads, writes, reads_length, reads_frame, writes_frame}
use Rattle.rf233.specs.Rows.Row.{does}
use Rattle.rf233.specs.Starter.{register_transfer, frame_read_into, frame_write_from, begun, refrains}
use Rattle.rf233.specs.Step.{step_of}
use Rattle.rf233.specs.declared.action.Action.{Action}
use Rattle.rf233.specs.declared.action.Action.TheVariants.{Nothing}
use Rattle.rf233.specs.Transfer.{kind_no, kind_value}
use Rattle.rf233.specs.declared.transfer.TransferKind.{TransferKind}
use Rattle.rf233.specs.declared.transfer.TransferKind.TheVariants as transfer
use Rattle.rf233.specs.declared.answer.Answer.{Answer}
use Rattle.rf233.specs.declared.answer.Answer.TheVariants.{Done}
use Rattle.rf233.specs.declared.answer.Outcome.{Outcome}
use Rattle.rf233.specs.declared.arrived.Arrived.{Arrived}
use Rattle.rf233.specs.declared.driver.Driver.{Driver}
use Rattle.rf233.specs.declared.driver.Lent.{Lent}
use Rattle.rf233.specs.declared.starter.Started.{Started}
use Rattle.rf233.specs.declared.transfer.Transfer.{Transfer}
use Rattle.rf233.proofs.ChoiceLaws.{either}
use Rattle.rf233.proofs.EveryStep.{commit_by, completion_by}
use Rattle.rf233.proofs.OwnBuffers.{found_none}
use Rattle.rf233.proofs.Trees.{leaves, unknown, row_of, row_of_lem}
use Rattle.custody.specs.Book.{is_act}
use Rattle.custody.specs.Yield.{act_count, Yield, SixActions}
use Rattle.custody.proofs.Actions.{fewer}
use Rattle.rf233.proofs.EveryCall.{reset_actions, every_call}
use Rattle.custody.proofs.Shown.{passes, plainly, Notices, all_pass}

-- ---- a list of at most six actions, in its six places

-- the first n places of a list with m of `Nothing` behind it
abbrev held : ℕ → ℕ → List Action → List Action
held n m l = take n (l ++ replicate m Nothing)

in_places : (n : ℕ) (l : List Action) → length (held n n l) ≡ n
in_places n l = length-take-le n (l ++ replicate n Nothing) (simp (length-append, length-replicate) (omega arith))

counts : (n m : ℕ) (l : List Action) → length l ≤ n → T (passes is_act l) → length l ≡ act_count (held n m l)
counts zero m [] h t = refl
counts zero m (x ∷ l) h t = absurd (omega arith)
counts (suc n) zero [] h t = refl
counts (suc n) (suc m) [] h t = omega (arith, counts n m [] (omega arith) tt)
counts (suc n) m (x ∷ l) h t =
    rw (is_true (is_act x) (left (is_act x) _ t)) (omega (arith, counts n m l (omega arith) (right (is_act x) _ t)))

firsts : (n m : ℕ) (l : List Action) (k : ℕ) → length l ≤ n → T (passes is_act l) → k < length l
    → is_act (get_or (held n m l) k Nothing) ≡ true
firsts n m [] k h t i = absurd (omega arith)
firsts zero m (x ∷ l) k h t i = absurd (omega arith)
firsts (suc n) m (x ∷ l) zero h t i = is_true (is_act x) (left (is_act x) _ t)
firsts (suc n) m (x ∷ l) (suc k) h t i = firsts n m l k (omega arith) (right (is_act x) _ t) (omega arith)

-- ---- steps

abbrev Yields : Outcome → Type 0
Yields o = Yield o.reply

-- a reply with these actions, by its transfer's kind
with_actions_lem : (l : List Action) → length l ≤ 6 → T (passes is_act l) → (x : Answer) (t : Option Transfer) → kind_no t ≤ 4
    → Yield (record { answer = x; transfer = t; actions = actions l })
with_actions_lem l h a x t k =
    record { transfer = k; places = in_places 6 l; most = h; counted = counts 6 6 l h a; first = λ i j. firsts 6 6 l i h a j }

-- and without one
silent : (x : Answer) (t : Option Transfer) → kind_no t ≤ 4 → Yield (record { answer = x; transfer = t; actions = actions [] })
silent = with_actions_lem [] (omega arith) tt

-- nor a transfer
nothing : (x : Answer) → Yield (record { answer = x; transfer = None; actions = actions [] })
nothing x = silent x None (omega arith)

-- what every starter may give: none, or a transfer of one of the four kinds
abbrev Small : Started → Type 0
Small s = kind_no (begun s.answer) ≤ 4

refrains_small : (d : Driver) → Small (refrains d)
refrains_small d = rw (found_none d.buffers.under) (omega arith)

kind_small : (k : TransferKind) → kind_value k ≤ 4
kind_small k = grind arith

register_small : (k : TransferKind) (x y : ℕ) (d : Driver) → Small (register_transfer k x y d)
unfolding register_transfer
register_small k x y d = grind (arith, kind_small k, found_none d.buffers.under)

read_small : (s : Option Lent) (n : ℕ) (d : Driver) → Small (frame_read_into s n d)
unfolding frame_read_into
read_small None n d = refrains_small d
read_small (Some x) n d = either Small _ _ _ (omega arith) (refrains_small d)

write_small : (s : Option Lent) (d : Driver) → Small (frame_write_from s d)
unfolding frame_write_from
write_small None d = refrains_small d
write_small (Some x) d = either Small _ _ _ (omega arith) (refrains_small d)

again_small : (u : Under) (d : Driver) → Small (again u d)
again_small Idle d = refrains_small d
again_small Register d = refrains_small d
again_small (FrameRead x) d = refrains_small d
again_small (FrameWrite x) d = refrains_small d
again_small (Waits offer.Register) d = register_small _ _ _ d
again_small (Waits offer.FrameRead) d = read_small (front (line d.buffers)) _ d
again_small (Waits offer.FrameWrite) d = write_small d.buffers.tx_buf d

-- ---- the rows of all states

-- a row names at most six actions, and `Nothing` is not one of them
abbrev row_six : Row → Bool
row_six (does l x n s) = leb (length s) 6 && plainly is_act s

rows_six : T (all_below (λ n. leaves unknown row_six (tree_at n)) 69)
unfolding tree_at trees
rows_six = tt

-- a notice is not `Nothing`
notices_act : (a : Arrived) (d : Driver) → Notices is_act a d
notices_act a d = record { power = tt; config = tt; sent = tt; dropped = tt; received = tt }

access_yields : (x : Access) (a : Arrived) (l : List Action) (d : Driver) → length l ≤ 6 → T (passes is_act l)
    → Yields (accessed x a (actions l) d)
access_yields none a l d h t = with_actions_lem l h t _ _ (omega arith)
access_yields (reads r) a l d h t = with_actions_lem l h t _ _ (register_small transfer.RegisterRead _ _ d)
access_yields (writes r v) a l d h t = with_actions_lem l h t _ _ (register_small transfer.RegisterWrite _ _ d)
access_yields reads_length a l d h t = with_actions_lem l h t _ _ (read_small (front (line d.buffers)) 0 d)
access_yields reads_frame a l d h t = with_actions_lem l h t _ _ (read_small (front (line d.buffers)) d.reception.length d)
access_yields writes_frame a l d h t = with_actions_lem l h t _ _ (write_small d.buffers.tx_buf d)

row_yields : (r : Row) (a : Arrived) (d : Driver) → T (row_six r) → Yields (perform r a d)
unfolding perform
row_yields (does l x n s) a d t =
    let e = entering n (assigning a.result l d) in
    let most = leb-true (length s) 6 (is_true (leb (length s) 6) (left (leb (length s) 6) _ t)) in
    access_yields x a (shown a e s) _ (omega (arith, fewer a e s)) (all_pass is_act a e (notices_act a e) s (right (leb (length s) 6) _ t))

case_yields : (a : Arrived) (d : Driver) → Yields (own_case a d)
unfolding case_of
case_yields a d = row_yields (row_of a d) a d (row_of_lem (λ n. row_six) rows_six a d)

-- ---- completions

-- a register transfer without actions
asks : (k : TransferKind) (x y : ℕ) (d : Driver) → Yields (step_of (register_transfer k x y d) (actions []))
asks k x y d = silent _ _ (register_small k x y d)

firing_yields : (d : Driver) → Yields (handle_interrupt d)
unfolding handle_interrupt
firing_yields d =
    either Yields _ _ _ (either Yields _ _ _ (asks transfer.RegisterWrite _ _ _) (asks transfer.RegisterRead _ _ _)) (nothing Done)

completion_yields : (a : Arrived) (d : Driver) → Yields (completed a d)
completion_yields a d =
    completion_by Yields (λ e. Unit {0}) (record { flags = λ f e s h g. tt; moves = λ b e g. tt; reads = λ e h g. tt })
    (record {
      fires = λ e g. firing_yields e;
      sends = λ e g s. asks transfer.RegisterRead _ _ _;
      waits = λ e g. asks transfer.RegisterRead _ _ _;
      commits = λ e g. commit_by Yields e (asks transfer.RegisterWrite _ _ _) (nothing Done);
      case = λ b e g. case_yields b e;
    }) a d tt

pub six_actions : SixActions
six_actions d c p =
    every_call d p (λ c t. Yields t.outcome) (record {
      refuses = λ c n e t z same. nothing (answer_of n);
      rests = λ c e q s. nothing Done;
      reads = λ c x y e q s. asks transfer.RegisterRead x y e;
      writes = λ c x y e q s. asks transfer.RegisterWrite x y e;
      resets = λ v e q s. with_actions_lem reset_actions (omega arith) tt Done None (omega arith);
      completes = λ xs q e i. completion_yields (arrived_of xs) d;
      declines = λ e i. nothing Done;
      resumes = λ q e i. silent Done _ (again_small d.buffers.under _);
    }) c
