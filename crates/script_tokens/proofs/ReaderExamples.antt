-- Worked examples of readers.
use Rattle.std.proofs.Common.{◌≡◌, Bool, true, false, [], ◌∷◌, Some, None, refl, codes}
use Rattle.syn_trees.specs.declared.token_tree.Spacing.TheVariants.{Alone, Joint}
use Rattle.script_tokens.specs.Tokens.{Kind, Word, Numeral, Mark, Tok}
use Rattle.script_tokens.specs.Readers.{word, arrow, behind}
use Rattle.script_tokens.specs.Numbers.{number, leaf}
use Rattle.script_tokens.specs.Many.{many}

abbrev tok : Bool → Kind → Tok
tok spaced kind = record { spaced = spaced; kind = kind }

-- `@7` is a leaf, `@ 7` is none
a_leaf : leaf (tok true (Mark 64 Alone) ∷ tok false (Numeral (codes "7")) ∷ []) ≡ Some (7, [])
a_leaf = refl

no_leaf : leaf (tok true (Mark 64 Alone) ∷ tok true (Numeral (codes "7")) ∷ []) ≡ None
no_leaf = refl

-- `007` is 7; `1x` and `4294967296` are no numbers
a_number : number (tok true (Numeral (codes "007")) ∷ []) ≡ Some (7, [])
a_number = refl

no_number : number (tok true (Numeral (codes "1x")) ∷ []) ≡ None
no_number = refl

too_great : number (tok true (Numeral (codes "4294967296")) ∷ []) ≡ None
too_great = refl

-- `=>` is an arrow, `= >` is none
an_arrow : arrow (tok false (Mark 61 Joint) ∷ tok false (Mark 62 Alone) ∷ []) ≡ Some (tt, [])
an_arrow = refl

no_arrow : arrow (tok false (Mark 61 Alone) ∷ tok true (Mark 62 Alone) ∷ []) ≡ None
no_arrow = refl

-- of `, a , b c` two words stand behind commas
two_words : many (behind 44 word) (tok false (Mark 44 Alone) ∷ tok true (Word (codes "a")) ∷ tok true (Mark 44 Alone) ∷ tok true (Word (codes "b")) ∷ tok true (Word (codes "c")) ∷ [])
    ≡ (codes "a" ∷ codes "b" ∷ [], tok true (Word (codes "c")) ∷ [])
two_words = refl
