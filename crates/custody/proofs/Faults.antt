-- Each way to a fault of the book, on a smallest run: before the last call there is none, with it there is one; and a run without a fault.
-- Computed from the definition of the book, in the order of document 01. Assumes nothing.
use Rattle.std.proofs.Common.{◌≡◌, ℕ, Bool, true, false, not, ◌&&◌, List, [], ◌∷◌, ◌++◌, refl}
use Rattle.rf233.specs.Action.{actions, padded}
use Rattle.std.specs.Prelude.{Option, None, Some}
use Rattle.rf233.specs.Transfer.{transfer_of}
use Rattle.rf233.specs.declared.transfer.TransferKind.{TransferKind}
use Rattle.rf233.specs.declared.transfer.TransferKind.TheVariants.{RegisterRead, FrameRead, FrameWrite}
use Rattle.rf233.specs.declared.action.Action.{Action}
use Rattle.rf233.specs.declared.action.Actions.{Actions}
use Rattle.rf233.specs.declared.action.Action.TheVariants.{ConfigDone, Sent, Received, Dropped}
use Rattle.rf233.specs.declared.answer.Answer.{Answer}
use Rattle.rf233.specs.declared.answer.Answer.TheVariants.{Done, Busy}
use Rattle.rf233.specs.declared.answer.Reply.{Reply}
use Rattle.rf233.specs.declared.transfer.Transfer.{Transfer}
use Rattle.custody.specs.Book.{Page, Fed, new_page, filled, entered, entered_by}
use Rattle.custody.specs.Book.Fed.{lends_transmit, lends_receive, completes, other, declines, resumes}

-- a call as the book is fed it, and its reply
record Fact : Type 0 where
  fed : Fed
  reply : Reply

-- a call that is answered so, shows these actions and starts this transfer
abbrev call : Fed → Answer → Actions → Option Transfer → Fact
call f a l t = record { fed = f; reply = record { answer = a; transfer = t; actions = l } }

-- a refused call; one that lends a buffer; one that shows an action; one that starts a transfer; a completion
abbrev refuses : Actions → Option Transfer → Fact
refuses = call other Busy

abbrev sends : ℕ → Fact
sends b = call (lends_transmit b) Done (actions []) None

abbrev receives : ℕ → Fact
receives b = call (lends_receive b) Done (actions []) None

abbrev shows : Action → Fact
shows a = call other Done (actions (a ∷ [])) None

abbrev moves : TransferKind → ℕ → ℕ → Option Transfer
moves k w r = Some (transfer_of k w r 0 0 0 0)

abbrev starts : TransferKind → ℕ → ℕ → Fact
starts k w r = call other Done (actions []) (moves k w r)

abbrev ends : Fact
ends = call completes Done (actions []) None

-- a decline, and a resume that offers this transfer
abbrev waits : Fact
waits = call declines Done (actions []) None

abbrev again : TransferKind → ℕ → ℕ → Fact
again k w r = call resumes Done (actions []) (moves k w r)

-- four buffers to receive into
abbrev four : List Fact
four = receives 3 ∷ receives 4 ∷ receives 5 ∷ receives 6 ∷ []

-- the book after these calls
abbrev after : List Fact → Page → Page
after [] k = k
after (x ∷ more) k = after more (entered x.fed x.reply k)

-- there is no fault before the last call, and one with it
abbrev faulty : List Fact → Fact → Bool
faulty l x = not (after l new_page).fault && (after (x ∷ []) (after l new_page)).fault

-- the same of a last call that starts a transfer of the kind of this number, which no `TransferKind` need have
abbrev faulty_start : List Fact → ℕ → ℕ → ℕ → Bool
faulty_start l n w r =
    not (after l new_page).fault && (entered_by other Done (actions []).items n w r (after l new_page)).fault

pub faults :
    -- a refused call with an action, also where the count leaves it out, or with a transfer
    (faulty [] (refuses (actions (ConfigDone ∷ [])) None) ≡ true)
    × (faulty [] (refuses (padded 0 (ConfigDone ∷ [])) None) ≡ true)
    × (faulty [] (refuses (actions []) (moves RegisterRead 16 17)) ≡ true)
    -- a buffer lent that is not with the client, and one above 18
    × (faulty (sends 3 ∷ []) (receives 3) ≡ true)
    × (faulty [] (sends 16) ≡ true)
    × (faulty [] (sends 19) ≡ true)
    -- a second buffer in the transmit place or a fifth in the receive place, also while one of them is under way
    × (faulty (sends 3 ∷ []) (sends 4) ≡ true)
    × (faulty four (receives 7) ≡ true)
    × (faulty (four ++ (starts FrameRead 18 4 ∷ [])) (receives 7) ≡ true)
    × (faulty (sends 3 ∷ starts FrameWrite 3 18 ∷ []) (sends 4) ≡ true)
    -- a completion with no transfer under way
    × (faulty [] ends ≡ true)
    -- a decline with none, and either while one waits
    × (faulty [] waits ≡ true)
    × (faulty (starts RegisterRead 16 17 ∷ waits ∷ []) ends ≡ true)
    × (faulty (starts RegisterRead 16 17 ∷ waits ∷ []) waits ≡ true)
    -- a transfer of any call but a resume while one waits, and a resume's while one is under way
    × (faulty (starts RegisterRead 16 17 ∷ waits ∷ []) (starts RegisterRead 16 17) ≡ true)
    × (faulty (starts RegisterRead 16 17 ∷ []) (again RegisterRead 16 17) ≡ true)
    -- a resume's whose client's buffer is not in its place, and a second transmit buffer while the first one's transfer waits
    × (faulty (receives 3 ∷ starts FrameRead 18 3 ∷ waits ∷ []) (again FrameWrite 3 18) ≡ true)
    × (faulty (sends 3 ∷ starts FrameWrite 3 18 ∷ waits ∷ []) (sends 4) ≡ true)
    -- a notice or a drop whose buffer is not in its place
    × (faulty (receives 3 ∷ []) (shows (Sent 3 true false)) ≡ true)
    × (faulty (receives 3 ∷ []) (shows (Dropped 3)) ≡ true)
    × (faulty (sends 3 ∷ []) (shows (Received 3 10 true)) ≡ true)
    -- a transfer while another is under way
    × (faulty (receives 3 ∷ starts RegisterRead 16 17 ∷ []) (starts FrameRead 18 3) ≡ true)
    -- one of a kind that there is not, ones that name the wrong own buffers, one whose client's buffer is not in its place
    × (faulty_start [] 5 16 17 ≡ true)
    × (faulty [] (starts RegisterRead 17 16) ≡ true)
    × (faulty (receives 3 ∷ []) (starts FrameRead 16 3) ≡ true)
    × (faulty (sends 3 ∷ []) (starts FrameWrite 3 17) ≡ true)
    × (faulty (sends 3 ∷ []) (starts FrameRead 18 3) ≡ true)
unfolding entered filled
faults = (
  refl,
  refl,
  refl,
  refl,
  refl,
  refl,
  refl,
  refl,
  refl,
  refl,
  refl,
  refl,
  refl,
  refl,
  refl,
  refl,
  refl,
  refl,
  refl,
  refl,
  refl,
  refl,
  refl,
  refl,
  refl,
  refl,
  refl,
)

-- a start and its completion; buffers lent to both places, one of them under way; four to receive into, of which one is read into and
-- handed back, and then another is lent; a register transfer and a frame write that are declined, the latter twice, and offered again
pub faultless : (after (starts RegisterRead 16 17 ∷ ends ∷ []) new_page ≡ new_page)
    × ((after (sends 3 ∷ starts FrameWrite 3 18 ∷ receives 4 ∷ ends ∷ []) new_page).fault ≡ false)
    × ((after (four ++ (starts FrameRead 18 4 ∷ ends ∷ shows (Received 4 10 true) ∷ receives 7 ∷ [])) new_page).fault ≡ false)
    × (after (starts RegisterRead 16 17 ∷ waits ∷ again RegisterRead 16 17 ∷ ends ∷ []) new_page ≡ new_page)
    × ((after (sends 3 ∷ starts FrameWrite 3 18 ∷ waits ∷ receives 4 ∷ again FrameWrite 3 18 ∷ waits ∷ again FrameWrite 3 18 ∷ ends ∷ [])
    new_page).fault ≡ false)
unfolding entered filled
faultless = (refl, refl, refl, refl, refl)
