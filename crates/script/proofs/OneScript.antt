-- Bytes are a script in one way, or break in one line.
use Rattle.std.proofs.Common.{◌≡◌, ℕ, ◌≤◌, List, length, take, count_by, nat_eq, suc, refl, ap, ◌∙◌, sym, arith}
use Rattle.std.proofs.lemmas.List.{take_at}
use Rattle.script.specs.Script.{BreaksAt}
use Rattle.script.specs.Laws.{HasOneReading}
use Rattle.script.proofs.Lines.{one_contents}

-- bytes break in one line
one_line : (bytes : List ℕ) (line other : ℕ) → BreaksAt bytes line → BreaksAt bytes other → line ≡ other
one_line bytes line other a b =
    let fits : length a.front ≤ length b.front = b.is_longest.longest a.front a.is_longest.rest a.is_longest.spelled a.is_longest.there a.is_longest.are in
    let also : length b.front ≤ length a.front = a.is_longest.longest b.front b.is_longest.rest b.is_longest.spelled b.is_longest.there b.is_longest.are in
    let size_is : length b.front ≡ length a.front = omega arith in
    let same : a.front ≡ b.front = sym (take_at a.front a.is_longest.rest (length a.front) refl) ∙ (ap (λ l. take (length a.front) l) (sym a.is_longest.there ∙ b.is_longest.there) ∙ take_at b.front b.is_longest.rest (length a.front) size_is) in
    a.counts ∙ (ap (λ l. suc (count_by (λ b. nat_eq b 10) l)) same ∙ sym b.counts)

pub has_one_reading : HasOneReading
has_one_reading = record {
  one = λ bytes contents other a b. one_contents _ contents other a b;
  line = λ bytes line other a b. one_line _ line other a b;
  never_both = λ bytes contents line script fault. fault.none contents script;
}
