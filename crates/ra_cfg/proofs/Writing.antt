-- Writing a text character by character.
use Rattle.std.proofs.Common.{◌≡◌, ℕ, List, [], ◌∷◌, ◌++◌, length, map, take, refl, ap, sym, ◌∙◌, append_assoc}
use Rattle.std.proofs.lemmas.Str.{encodes-append, chars_from_encodes}
use Rattle.std.proofs.lemmas.List.{append-nil, nil_from_length}
use Rattle.std.proofs.lemmas.Grind.{flat_map-append}
use Rattle.std.proofs.Output.{has_written_append, has_written_of_eq}
use Rattle.std.specs.Char.{encode_utf8}
use Rattle.std.specs.List.{flat_map}
use Rattle.std.specs.Str.{encode_utf8_all, chars, IsUtf8}
use Rattle.std.specs.Fmt.{HasWritten, IsPlainFormatter}
use Rattle.std.specs.declared.fmt.Formatter.{Formatter}
use Rattle.ra_cfg.specs.declared.cfg_expr.CfgAtom.{CfgAtom}
use Rattle.ra_cfg.specs.Text.{escaped, atom_text, after_comma, after_and, more_atoms}

-- the last of more atoms stands behind ` and `
pub more_atoms_text : (between : List CfgAtom) (last : CfgAtom) → more_atoms (between ++ last ∷ []) ≡ flat_map after_comma (map atom_text between) ++ after_and (atom_text last)
more_atoms_text [] last = refl
more_atoms_text (a ∷ []) last = ap (λ l. l ++ after_and (atom_text last)) (sym (append-nil (after_comma (atom_text a))))
more_atoms_text (a ∷ b ∷ more) last =
    ap (λ l. after_comma (atom_text a) ++ l) (more_atoms_text (b ∷ more) last)
    ∙ sym (append_assoc (after_comma (atom_text a)) (flat_map after_comma (map atom_text (b ∷ more))) (after_and (atom_text last)))

module _ {W : Type 0} (took : W → List ℕ → W → Type 0) where
  -- the characters `seen` of `text` are written, and `rest` is left
  pub record WroteInside (f : Formatter W) (text seen rest : List ℕ) (g : Formatter W) : Type 0 where
    pub written : IsPlainFormatter f → HasWritten took f (flat_map escaped seen) g
    pub whole : encode_utf8_all seen ++ rest ≡ text

  -- one more character is written
  pub wrote_more : (f g h : Formatter W) (text seen rest left : List ℕ) (c : ℕ) → WroteInside f text seen rest g → rest ≡ encode_utf8 c ++ left → (IsPlainFormatter g → HasWritten took g (escaped c) h) → WroteInside f text (seen ++ c ∷ []) left h
  wrote_more f g h text seen rest left c so_far is more = record {
    written = λ plain. let done = so_far.written plain in
        has_written_of_eq _ _ _ _ _ (sym (flat_map-append escaped seen (c ∷ []) ∙ ap (λ l. flat_map escaped seen ++ l) (append-nil (escaped c)))) (has_written_append _ _ _ _ _ _ done (more done.plain));
    whole = ap (λ l. l ++ left) (encodes-append seen (c ∷ []) ∙ ap (λ l. encode_utf8_all seen ++ l) (append-nil (encode_utf8 c)))
        ∙ (append_assoc (encode_utf8_all seen) (encode_utf8 c) left ∙ (ap (λ l. encode_utf8_all seen ++ l) (sym is) ∙ so_far.whole));
  }

  -- where nothing is left, all is written
  pub wrote_all : (f g : Formatter W) (text seen rest : List ℕ) → IsUtf8 text → WroteInside f text seen rest g → length rest ≡ 0 → IsPlainFormatter f → HasWritten took f (flat_map escaped (chars text)) g
  wrote_all f g text seen rest utf8 so_far none plain =
      has_written_of_eq _ _ _ _ _ (ap (flat_map escaped) (chars_from_encodes seen text utf8 (sym (append-nil (encode_utf8_all seen)) ∙ (ap (λ l. encode_utf8_all seen ++ l) (sym (nil_from_length rest none)) ∙ so_far.whole)))) (so_far.written plain)

  -- so many of the atoms are written, each behind `, `
  pub record WroteAtoms (f : Formatter W) (atoms : List CfgAtom) (n : ℕ) (g : Formatter W) : Type 0 where
    pub written : IsPlainFormatter f → HasWritten took f (flat_map after_comma (map atom_text (take n atoms))) g
