-- Cutting keeps the parts and makes each chunk as long as it can be, and nothing else does.
use Rattle.std.specs.Prelude.{◌≡◌, ℕ, ◌+◌, ◌-◌, ◌<◌, ◌≤◌, Bool, true, false, cond, nat_lt, List, [], ◌∷◌, ◌++◌, refl}
use Rattle.std.specs.Char.{len_utf8}
use Rattle.std.proofs.Common.{◌∙◌, ap, ap₂, subst, arith, zero-add, add_assoc, lt-ltb, le-ltb, ltb-true, ltb-false}
use Rattle.std.proofs.lemmas.Str.{len_utf8_bounds}
use Rattle.template_bytes.specs.Chunks.{Part, Letter, Stop, Cut, Chunk, Mark, total, letters, parts_of, IsFull, AreLongest}
use Rattle.template_bytes.specs.Cutting.{Opened, closed_with, closed, longer, next_chunk, cut, cuts_of}

module _ {S : Type 0} where
  -- characters in front of parts are the parts of the characters alone, and those parts behind them
  pub letters_append : (cs : List ℕ) (ps : List (Part S)) → letters cs ps ≡ letters cs [] ++ ps
  letters_append [] ps = refl
  letters_append (c ∷ cs) ps = ap (λ l. Letter c ∷ l) (letters_append cs ps)

  -- characters behind characters stand in front of parts
  pub letters_both : (cs ds : List ℕ) (ps : List (Part S)) → letters (cs ++ ds) ps ≡ letters cs (letters ds ps)
  letters_both [] ds ps = refl
  letters_both (c ∷ cs) ds ps = ap (λ l. Letter c ∷ l) (letters_both cs ds ps)

  -- The same parts

  -- the parts of an open chunk and what is behind it
  abbrev opened_parts : Opened S → List (Part S)
  opened_parts opened = letters opened.chunk (parts_of opened.behind)

  -- a chunk that is closed keeps its parts
  closed_says : (chunk : List ℕ) (behind : List (Cut S)) → parts_of (closed_with chunk behind) ≡ letters chunk (parts_of behind)
  closed_says [] behind = refl
  closed_says (c ∷ cs) behind = refl

  -- a character stands in front of the parts behind it, whether there is room for it or not
  letter_says : (is_full : Bool) (c : ℕ) (next same : Opened S) (ps : List (Part S)) → opened_parts next ≡ ps → opened_parts same ≡ ps
      → opened_parts (cond is_full (next_chunk c next) (longer c same)) ≡ Letter c ∷ ps
  letter_says true c next same ps in_next in_same = ap (λ l. Letter c ∷ l) in_next
  letter_says false c next same ps in_next in_same = ap (λ l. Letter c ∷ l) in_same

  -- parts are the same parts when they are cut, whatever room there is
  cut_says : (room : ℕ) (ps : List (Part S)) → opened_parts (cut room ps) ≡ ps
  cut_says room [] = refl
  cut_says room (Stop s ∷ ps) = ap (λ l. Stop s ∷ l) (closed_says (cut 65535 ps).chunk (cut 65535 ps).behind ∙ cut_says 65535 ps)
  cut_says room (Letter c ∷ ps) =
      letter_says (nat_lt room (len_utf8 c)) c (cut (65535 - len_utf8 c) ps) (cut (room - len_utf8 c) ps) ps (cut_says (65535 - len_utf8 c) ps) (cut_says (room - len_utf8 c) ps)

  -- parts are the same parts when they are cut
  pub cuts_say : (ps : List (Part S)) → parts_of (cuts_of ps) ≡ ps
  cuts_say ps = closed_says (cut 65535 ps).chunk (cut 65535 ps).behind ∙ cut_says 65535 ps

  -- The longest chunks

  -- an open chunk fits in the room, and no character behind it would, whatever was used of 65,535 bytes before
  record HasRoom (room : ℕ) (opened : Opened S) : Type 0 where
    fits : total opened.chunk ≤ room
    full : (used : ℕ) → used + room ≡ 65535 → IsFull (used + total opened.chunk) opened.behind
    longest : AreLongest opened.behind

  -- a chunk that is closed is as long as it can be
  closed_longest : (chunk : List ℕ) (behind : List (Cut S)) → HasRoom 65535 (record { chunk = chunk; behind = behind }) → AreLongest (closed_with chunk behind)
  closed_longest [] behind h = h.longest
  closed_longest (c ∷ cs) behind h = (h.fits, (subst (λ size. IsFull size behind) (zero-add (total (c ∷ cs))) (h.full 0 refl), h.longest))

  -- a character without room in the open chunk begins the next one
  next_room : (room c : ℕ) (next : Opened S) → room < len_utf8 c → HasRoom (65535 - len_utf8 c) next → HasRoom room (next_chunk c next)
  next_room room c next less h =
      let size = len_utf8_bounds c in
      record {
        fits = omega arith;
        full = λ used e. omega arith;
        longest = (omega (arith, h.fits), (h.full (len_utf8 c) (omega arith), h.longest));
      }

  -- a character with room in the open chunk makes it longer
  same_room : (room c : ℕ) (same : Opened S) → len_utf8 c ≤ room → HasRoom (room - len_utf8 c) same → HasRoom room (longer c same)
  same_room room c same enough h = record {
    fits = omega (arith, h.fits);
    full = λ used e. subst (λ size. IsFull size same.behind) (add_assoc used (len_utf8 c) (total same.chunk)) (h.full (used + len_utf8 c) (omega arith));
    longest = h.longest;
  }

  -- a character leaves no room for the next one in a chunk that is closed
  letter_room : (is_full : Bool) (room c : ℕ) (next same : Opened S) → nat_lt room (len_utf8 c) ≡ is_full → HasRoom (65535 - len_utf8 c) next → HasRoom (room - len_utf8 c) same
      → HasRoom room (cond is_full (next_chunk c next) (longer c same))
  letter_room true room c next same e in_next in_same = next_room room c next (ltb-true room (len_utf8 c) e) in_next
  letter_room false room c next same e in_next in_same = same_room room c same (ltb-false room (len_utf8 c) e) in_same

  -- parts are cut at the last place that the room allows
  cut_room : (room : ℕ) (ps : List (Part S)) → HasRoom room (cut room ps)
  cut_room room [] = record { fits = omega arith; full = λ used e. tt; longest = tt }
  cut_room room (Stop s ∷ ps) = record { fits = omega arith; full = λ used e. tt; longest = closed_longest (cut 65535 ps).chunk (cut 65535 ps).behind (cut_room 65535 ps) }
  cut_room room (Letter c ∷ ps) = letter_room (nat_lt room (len_utf8 c)) room c _ _ refl (cut_room (65535 - len_utf8 c) ps) (cut_room (room - len_utf8 c) ps)

  -- parts are cut into the longest chunks
  pub cuts_longest : (ps : List (Part S)) → AreLongest (cuts_of ps)
  cuts_longest ps = closed_longest (cut 65535 ps).chunk (cut 65535 ps).behind (cut_room 65535 ps)

  -- One way to cut

  -- nothing more in the open chunk
  abbrev pub no_more : List (Cut S) → Opened S
  no_more cuts = record { chunk = []; behind = cuts }

  -- a character without room is cut as if the text began there
  pub cut_full : (room c : ℕ) (ps : List (Part S)) → room < len_utf8 c → cut room (Letter c ∷ ps) ≡ no_more (cuts_of (Letter c ∷ ps))
  cut_full room c ps less =
      let size = len_utf8_bounds c in
      rw (lt-ltb room (len_utf8 c) less, le-ltb 65535 (len_utf8 c) (omega arith)) refl

  -- characters with room for them all are in the open chunk, where nothing behind them is
  pub cut_letters : (cs : List ℕ) (room rest : ℕ) (ps : List (Part S)) (cuts : List (Cut S)) → room ≡ total cs + rest → cut rest ps ≡ no_more cuts
      → cut room (letters cs ps) ≡ record { chunk = cs; behind = cuts }
  cut_letters [] room rest ps cuts e stops = ap (λ n. cut n ps) (e ∙ zero-add rest) ∙ stops
  cut_letters (c ∷ cs) room rest ps cuts e stops =
      rw (le-ltb room (len_utf8 c) (omega arith)) (ap (longer c) (cut_letters cs (room - len_utf8 c) rest ps cuts (omega arith) stops))

  -- behind a full chunk parts are cut as if the text began there
  cut_behind : (used room : ℕ) (cuts : List (Cut S)) → used + room ≡ 65535 → IsFull used cuts → cut room (parts_of cuts) ≡ no_more (cuts_of (parts_of cuts))
  cut_behind used room [] e full = refl
  cut_behind used room (Mark s ∷ cuts) e full = refl
  cut_behind used room (Chunk [] ∷ cuts) e full = absurd full
  cut_behind used room (Chunk (c ∷ cs) ∷ cuts) e full = cut_full room c (letters cs (parts_of cuts)) (omega arith)

  -- longest chunks are how their parts are cut
  pub one_cut : (cuts : List (Cut S)) → AreLongest cuts → cuts_of (parts_of cuts) ≡ cuts
  one_cut [] h = refl
  one_cut (Mark s ∷ cuts) h = ap (λ l. Mark s ∷ l) (one_cut cuts h)
  one_cut (Chunk [] ∷ cuts) h = absurd h
  one_cut (Chunk (c ∷ cs) ∷ cuts) h =
      let room = 65535 - total (c ∷ cs) in
      let behind = cut_behind (total (c ∷ cs)) room cuts (omega (arith, h.0)) h.1.0 in
      ap closed (cut_letters (c ∷ cs) 65535 room (parts_of cuts) (cuts_of (parts_of cuts)) (omega (arith, h.0)) behind) ∙ ap (λ l. Chunk (c ∷ cs) ∷ l) (one_cut cuts h.1.1)

  -- A stop

  -- what is behind more cuts
  abbrev followed_by : List (Cut S) → Opened S → Opened S
  followed_by more opened = record { chunk = opened.chunk; behind = opened.behind ++ more }

  -- a chunk that is closed keeps what follows
  closed_before : (more : List (Cut S)) (chunk : List ℕ) (behind : List (Cut S)) → closed_with chunk (behind ++ more) ≡ closed_with chunk behind ++ more
  closed_before more [] behind = refl
  closed_before more (c ∷ cs) behind = refl

  -- a character keeps what follows, whether there is room for it or not
  letter_before : (more : List (Cut S)) (is_full : Bool) (c : ℕ) (next same : Opened S)
      → cond is_full (next_chunk c (followed_by more next)) (longer c (followed_by more same)) ≡ followed_by more (cond is_full (next_chunk c next) (longer c same))
  letter_before more true c next same = refl
  letter_before more false c next same = refl

  -- what is behind a stop is cut apart from what is in front of it, whatever room there is
  cut_stop : (room : ℕ) (xs ys : List (Part S)) (s : S) → cut room (xs ++ Stop s ∷ ys) ≡ followed_by (Mark s ∷ cuts_of ys) (cut room xs)
  cut_stop room [] ys s = refl
  cut_stop room (Stop t ∷ xs) ys s =
      ap (λ l. no_more (Mark t ∷ l)) (ap closed (cut_stop 65535 xs ys s) ∙ closed_before (Mark s ∷ cuts_of ys) (cut 65535 xs).chunk (cut 65535 xs).behind)
  cut_stop room (Letter c ∷ xs) ys s =
      ap₂ (λ next same. cond (nat_lt room (len_utf8 c)) (next_chunk c next) (longer c same)) (cut_stop (65535 - len_utf8 c) xs ys s) (cut_stop (room - len_utf8 c) xs ys s)
      ∙ letter_before (Mark s ∷ cuts_of ys) (nat_lt room (len_utf8 c)) c (cut (65535 - len_utf8 c) xs) (cut (room - len_utf8 c) xs)

  -- what is behind a stop is cut apart from what is in front of it
  pub cuts_stop : (xs ys : List (Part S)) (s : S) → cuts_of (xs ++ Stop s ∷ ys) ≡ cuts_of xs ++ Mark s ∷ cuts_of ys
  cuts_stop xs ys s = ap closed (cut_stop 65535 xs ys s) ∙ closed_before (Mark s ∷ cuts_of ys) (cut 65535 xs).chunk (cut 65535 xs).behind
