-- The lent table, row by row. Assumes nothing.
use mathlib.Core.Path.{◌≡◌, ap, sym, ◌∙◌}
use mathlib.Core.List.{List, [], ◌∷◌, ◌++◌, map, map-append}
use Prim.Native.Nat.{ℕ, ◌+◌, ◌<◌}
use lib.ListN.{length, take, drop, get_or, take-append-drop}
use Rattle.std.specs.Prelude.{Err}
use Rattle.lists.proofs.Front.{take_more}
use Rattle.unity_table.specs.declared.Weights.{Weights}
use Rattle.unity_table.specs.declared.Summed.{Summed}
use Rattle.unity_table.specs.declared.RowFault.{RowFault}
use Rattle.unity_table.specs.Unity.{weights_of, unity_of, answer_told}
use Rattle.unity_table.specs.Summed.{running, Open, SummedTo}
use Rattle.unity_table.proofs.Ends.{table-refused}

-- the state after the first i rows
abbrev pub Read : List (List ℕ) → ℕ → Summed → Type 0
Read rows i s = Open s (map weights_of (take i rows))

-- a fault of the next row is the table's, whatever follows
pub read-refused : (rows : List (List ℕ)) (i : ℕ) (a : Weights) (f : RowFault) → i < length rows → a ≡ weights_of (get_or rows i []) → SummedTo (map weights_of (take i rows) ++ (a ∷ [])) (Err f) → answer_told (Err f) ≡ unity_of (map weights_of rows)
read-refused rows i a f h q g =
    let next : map weights_of (take i rows) ++ (a ∷ []) ≡ map weights_of (take (i + 1) rows) =
    ap (λ (x : Weights). map weights_of (take i rows) ++ (x ∷ [])) q
    ∙ sym (map-append weights_of (take i rows) (get_or rows i [] ∷ []))
    ∙ sym (ap (map weights_of) (take_more rows i [] h)) in
    table-refused (map weights_of (take (i + 1) rows)) (map weights_of (drop (i + 1) rows)) f (ap running (sym next) ∙ g)
    ∙ ap unity_of (sym (map-append weights_of (take (i + 1) rows) (drop (i + 1) rows)) ∙ ap (map weights_of) (take-append-drop (i + 1) rows))
