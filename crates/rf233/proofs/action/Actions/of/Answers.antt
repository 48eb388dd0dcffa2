-- `Actions::of` meets its contract: a list of at most six, and `Nothing` in the places past it. Assumes nothing.
use Rattle.std.proofs.Common.{◌≡◌, ℕ, ◌+◌, ◌-◌, ◌≤◌, List, ◌++◌, length, take, drop, length-take, ap, ◌∙◌, arith}
use mathlib.Core.Path.{sym}
use Rattle.std.specs.Prelude.{replicate}
use Rattle.std.proofs.lemmas.List.{take-replicate, drop-replicate}
use Rattle.std.proofs.Math.Seq.{take-append-add}
use Rattle.rf233.specs.Action.{padded}
use Rattle.rf233.specs.declared.action.Action.{Action}
use Rattle.rf233.specs.declared.action.Action.TheVariants.{Nothing}
use Rattle.rf233.proofs.action.Actions.of.Goals as goal

-- six places, of which the list takes the first
filled : (l : List Action) → length l ≤ 6 → l ++ drop (length l) (replicate 6 Nothing) ≡ take 6 (l ++ replicate 6 Nothing)
filled l h =
    let n : ℕ = 6 - length l in
    let e : length l + n ≡ 6 = omega arith in
    ap (λ (t : List Action). l ++ t) (drop-replicate (length l) 6 Nothing ∙ sym (take-replicate n 6 Nothing (omega arith)))
    ∙ (sym (take-append-add l (replicate 6 Nothing) n) ∙ ap (λ (k : ℕ). take k (l ++ replicate 6 Nothing)) e)

pub returns : goal.returns
returns g c =
    let xs = c.args.list in
    let l = c.copy_from_slice.ensures in
    let e : length xs ≡ g.row.N =
    sym (ap (λ (t : List Action). length t) l.after) ∙ (l.len ∙ (length-take g.row.N _ ∙ omega (arith, c.requires))) in
    rw (l.after, ← e) (ap (λ (t : List Action). padded (length xs) t) (filled xs (omega (arith, e, c.requires))))
