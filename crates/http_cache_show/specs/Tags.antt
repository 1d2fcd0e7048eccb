-- Where a reader of HTML is after some bytes. It knows tags, their quoted values, and the elements
-- whose content is no text.
use Rattle.std.specs.Prelude.{◌≡◌, ℕ, ◌==◌, ◌||◌, ◌&&◌, Bool, true, false, List, [], ◌∷◌, fold, codes, bytes_eq, not, if◌then◌else◌}
use Rattle.http_cache_show.specs.declared.item.Item.{Item}
use Rattle.http_cache_show.specs.declared.item.Item.TheVariants.{Text, Left, Right, Number, Size, Time, Value, Word}

-- the last byte of a tag's name comes first
pub data TagState : Type 0 where
  between : TagState
  named : List ℕ → TagState
  inside : List ℕ → TagState
  quoted : ℕ → List ℕ → TagState
  raw : List ℕ → List ℕ → TagState

-- the end tag of an element whose content is no text, without its `>`
abbrev pub end_of : List ℕ → List ℕ
end_of name =
    if bytes_eq name (codes "elyts") then codes "</style"
    else (if bytes_eq name (codes "tpircs") then codes "</script" else [])

-- after the `>` of a tag, by the end tag of what follows
abbrev pub content_until : List ℕ → TagState
content_until [] = between
content_until (b ∷ bs) = raw (b ∷ bs) (b ∷ bs)

abbrev pub is_end_of_name : ℕ → Bool
is_end_of_name b = b == 32 || b == 10 || b == 47

-- what is left to match of such an end tag
abbrev pub raw_after : List ℕ → ℕ → List ℕ → ℕ → TagState
raw_after end x [] b = if b == x then inside [] else raw end end
raw_after end x (y ∷ ys) b = if b == x then raw end (y ∷ ys) else raw end end

abbrev pub step : TagState → ℕ → TagState
step between b = if b == 60 then named [] else between
step (named name) b =
    if b == 62 then content_until (end_of name)
    else (if is_end_of_name b then inside name else named (b ∷ name))
step (inside name) b =
    if b == 62 then content_until (end_of name)
    else (if b == 34 || b == 39 then quoted b name else inside name)
step (quoted quote name) b = if b == quote then inside name else quoted quote name
step (raw end []) b = raw end end
step (raw end (x ∷ xs)) b = raw_after end x xs b

abbrev pub state_after : TagState → List ℕ → TagState
state_after r text = fold step r text

abbrev pub is_between_tags : List ℕ → Type 0
is_between_tags text = state_after between text ≡ between

abbrev pub is_between : TagState → Bool
is_between between = true
is_between (named name) = false
is_between (inside name) = false
is_between (quoted quote name) = false
is_between (raw end rest) = false

-- between tags, or in a value in double quotes
abbrev pub is_open : TagState → Bool
is_open between = true
is_open (named name) = false
is_open (inside name) = false
is_open (quoted quote name) = quote == 34
is_open (raw end rest) = false

-- whether an item may be in the value of an attribute: a number or a word of the program
abbrev pub is_value : Item → Bool
is_value (Text text) = false
is_value (Left text width) = false
is_value (Right text width) = false
is_value (Number number) = false
is_value (Size bytes) = false
is_value (Time seconds) = false
is_value (Value number) = true
is_value (Word word) = true

-- the mark of its hole
abbrev pub mark_of : Item → ℕ
mark_of item = if is_value item then 64 else 36

-- `$` is between tags, and `@` there or in a value in double quotes
abbrev pub fits : ℕ → TagState → Bool
fits b s = if b == 36 then is_between s else (if b == 64 then is_open s else true)

-- each hole is where it may be, and the template ends between tags
abbrev pub is_template : TagState → List ℕ → Bool
is_template s [] = is_between s
is_template s (b ∷ bs) = fits b s && is_template (step s b) bs

-- what was added is text in a place for text
abbrev pub IsTextAfter : List ℕ → List ℕ → Type 0
IsTextAfter old new = is_open (state_after between old) ≡ true → state_after between new ≡ state_after between old

-- neither `<` nor `"`
abbrev pub is_safe : ℕ → Bool
is_safe b = not (b == 60) && not (b == 34)
