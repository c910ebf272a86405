-- What the reducers of the four reductions of a plan answer, with the laws of a reducer, and the
-- rows that they look for.
use Rattle.std.specs.Prelude.{◌≡◌, ℕ, Bool, true, false, if◌then◌else◌, List, [], ℤ, pos, int_lt, length, map, nat_le, refl}
use Rattle.std.specs.List.{filter}
use Rattle.std.proofs.Common.{ap}
use Rattle.std.proofs.lemmas.Bool.{true≢false}
use Rattle.update.specs.Bags.{Entry, Alike, count_of}
use Rattle.plan.specs.Reductions.{IsReducer, single, count_answer, reduction_answer, has_key}
use Rattle.plan.specs.declared.node.Kind.{Kind}
use Rattle.plan.specs.declared.node.Kind.TheVariants.{Count, Distinct, Min, Max}
use Rattle.plan.proofs.ReducerLemmas.{all_reduce}
use Rattle.reducer.specs.Blind.{IsBlind}

-- ---- rows

-- the entry's count is above 0
abbrev pub is_positive : Entry → Bool
is_positive e = int_lt (pos 0) e.count

-- the rows of the entries with a count above 0, each with count 1
abbrev pub positive_rows : List Entry → List Entry
positive_rows entries = map (λ e. single e.row) (filter is_positive entries)

-- ---- answers

-- the answer of count for a key of at most 7 columns; the row of a longer key has no room for the
-- sum
abbrev pub count_within : List ℤ → List Entry → List Entry
count_within key entries = if nat_le (length key) 7 then reduction_answer Count key entries else []

-- the answer of distinct
abbrev pub distinct_answer : List ℤ → List Entry → List Entry
distinct_answer = reduction_answer Distinct

-- the answer of min
abbrev pub min_answer : List ℤ → List Entry → List Entry
min_answer = reduction_answer Min

-- the answer of max
abbrev pub max_answer : List ℤ → List Entry → List Entry
max_answer = reduction_answer Max

-- the answer of each kind
abbrev pub kind_answer : Kind → List ℤ → List Entry → List Entry
kind_answer Count = count_within
kind_answer Distinct = distinct_answer
kind_answer Min = min_answer
kind_answer Max = max_answer

-- each kind but count looks at rows
abbrev pub kind_sees_rows : Kind → Bool
kind_sees_rows Count = false
kind_sees_rows Distinct = true
kind_sees_rows Min = true
kind_sees_rows Max = true

-- ---- laws

-- the answer of count if there is room for it
abbrev count_if : Bool → List ℤ → List Entry → List Entry
count_if room key entries = if room then reduction_answer Count key entries else []

-- count satisfies the laws of a reducer
pub count_reduces : (k : ℕ) → IsReducer k count_within
count_reduces k =
    let laws = all_reduce Count k in
    record {
      alike = λ key a b h row. alike (nat_le (length key) 7) key a b (laws.alike key a b h) row;
      nothing = λ key row. nothing (nat_le (length key) 7) row;
      keyed = λ key row entries l d. keyed (nat_le (length key) 7) key row (filter (has_key k key) entries) (laws.keyed key row entries l d);
    }
  where
    alike : (room : Bool) (key : List ℤ) (a b : List Entry) → Alike (reduction_answer Count key a) (reduction_answer Count key b) → Alike (count_if room key a) (count_if room key b)
    alike true key a b h row = h row
    alike false key a b h row = refl

    nothing : (room : Bool) (row : List ℤ) → count_of (if room then [] else []) row ≡ pos 0
    nothing true row = refl
    nothing false row = refl

    keyed : (room : Bool) (key row : List ℤ) (entries : List Entry) → count_of (reduction_answer Count key entries) row ≡ pos 0 → count_of (count_if room key entries) row ≡ pos 0
    keyed true key row entries h = h
    keyed false key row entries h = refl

-- distinct satisfies the laws of a reducer
pub distinct_reduces : (k : ℕ) → IsReducer k distinct_answer
distinct_reduces k = all_reduce Distinct k

-- min satisfies the laws of a reducer
pub min_reduces : (k : ℕ) → IsReducer k min_answer
min_reduces k = all_reduce Min k

-- max satisfies the laws of a reducer
pub max_reduces : (k : ℕ) → IsReducer k max_answer
max_reduces k = all_reduce Max k

-- each kind satisfies the laws of a reducer
pub kind_reduces : (kind : Kind) (k : ℕ) → IsReducer k (kind_answer kind)
kind_reduces Count = count_reduces
kind_reduces Distinct = distinct_reduces
kind_reduces Min = min_reduces
kind_reduces Max = max_reduces

-- count does not look at rows
pub count_is_blind : (k : ℕ) → IsBlind k count_within
count_is_blind k key a b _ _ _ same row =
    ap (λ n. count_of (if nat_le (length key) 7 then count_answer key n else []) row) same

-- a reducer that looks at rows need not be blind
pub none_is_blind : (reduce : List ℤ → List Entry → List Entry) (k : ℕ) → true ≡ false → IsBlind k reduce
none_is_blind reduce k h = absurd (true≢false h)

-- a kind that does not look at rows is blind
pub kind_is_blind : (kind : Kind) (k : ℕ) → kind_sees_rows kind ≡ false → IsBlind k (kind_answer kind)
kind_is_blind Count k h = count_is_blind k
kind_is_blind Distinct k h = none_is_blind distinct_answer k h
kind_is_blind Min k h = none_is_blind min_answer k h
kind_is_blind Max k h = none_is_blind max_answer k h
