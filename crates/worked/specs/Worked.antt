-- Document 01, 'Worked tables': the eleven cases marked (P), as one table.
use Rattle.std.specs.Prelude.{List, [], ◌∷◌, ◌++◌, ℕ, take, replicate}
use Rattle.meaning.specs.Reading.{Read}
use Rattle.meaning.specs.TreeWriting.{TreeWritten}
use Rattle.meaning.specs.SentenceWriting.{SentenceWritten}

-- 'COPY, 67 bytes in hexadecimal'
abbrev pub copy : List ℕ
copy =
    0x4D ∷ 0x43 ∷ 0x47 ∷ 0x01 ∷ 0x00 ∷ 0x02 ∷ 0x01 ∷ 0x04 ∷ 0x00 ∷ 0x01 ∷ 0x02
    ∷ 0x0A ∷ 0x00 ∷ 0x01 ∷ 0x01 ∷ 0x02 ∷ 0x02 ∷ 0x01 ∷ 0x01 ∷ 0x00 ∷ 0x01 ∷ 0x02 ∷ 0x00
    ∷ 0x14 ∷ 0x00 ∷ 0x02 ∷ 0x00 ∷ 0x00 ∷ 0x00
    ∷ 0x15 ∷ 0x00 ∷ 0x02 ∷ 0x01 ∷ 0x02 ∷ 0x02 ∷ 0x00 ∷ 0x07 ∷ 0x00 ∷ 0x01 ∷ 0x01 ∷ 0x00 ∷ 0x02 ∷ 0x00 ∷ 0x07 ∷ 0x00 ∷ 0x01 ∷ 0x02 ∷ 0x00
    ∷ 0x16 ∷ 0x00 ∷ 0x02 ∷ 0x01 ∷ 0x02 ∷ 0x02 ∷ 0x00 ∷ 0x08 ∷ 0x00 ∷ 0x01 ∷ 0x01 ∷ 0x00 ∷ 0x02 ∷ 0x00 ∷ 0x08 ∷ 0x00 ∷ 0x01 ∷ 0x02 ∷ 0x00
    ∷ []

-- 'AMB: one category; function 1 has two daughters of it and sets them side by side; function 2 is the word 9.'
abbrev pub amb : List ℕ
amb =
    0x4D ∷ 0x43 ∷ 0x47 ∷ 0x01 ∷ 0x00 ∷ 0x01 ∷ 0x01 ∷ 0x02 ∷ 0x00 ∷ 0x01
    ∷ 0x01 ∷ 0x00 ∷ 0x01 ∷ 0x02 ∷ 0x01 ∷ 0x01 ∷ 0x02 ∷ 0x01 ∷ 0x01 ∷ 0x00 ∷ 0x02 ∷ 0x01 ∷ 0x00
    ∷ 0x02 ∷ 0x00 ∷ 0x01 ∷ 0x00 ∷ 0x01 ∷ 0x00 ∷ 0x09 ∷ 0x00
    ∷ []

-- 9 9 9, lent as bytes, and its chart
abbrev pub three_nines : List ℕ
three_nines = 9 ∷ 0 ∷ 9 ∷ 0 ∷ 9 ∷ 0 ∷ []

abbrev pub amb_chart : List ℕ
amb_chart =
    1 ∷ 2 ∷ 1 ∷ 0 ∷ 1 ∷ 0 ∷ 0 ∷ 0 ∷ 0 ∷ 0 ∷ 0 ∷ 0
    ∷ 1 ∷ 1 ∷ 2 ∷ 0 ∷ 2 ∷ 0 ∷ 0 ∷ 0 ∷ 0 ∷ 0 ∷ 3 ∷ 0
    ∷ 1 ∷ 1 ∷ 3 ∷ 0 ∷ 3 ∷ 0 ∷ 0 ∷ 0 ∷ 0 ∷ 0 ∷ 4 ∷ 0
    ∷ 1 ∷ 2 ∷ 1 ∷ 1 ∷ 2 ∷ 0 ∷ 0 ∷ 0 ∷ 0 ∷ 0 ∷ 0 ∷ 0
    ∷ 1 ∷ 1 ∷ 2 ∷ 1 ∷ 3 ∷ 0 ∷ 0 ∷ 0 ∷ 0 ∷ 3 ∷ 5 ∷ 0
    ∷ 1 ∷ 2 ∷ 1 ∷ 2 ∷ 3 ∷ 0 ∷ 0 ∷ 0 ∷ 0 ∷ 0 ∷ 0 ∷ 0
    ∷ []

-- a slice of n numbers, none of them 0, so that what is written is seen
abbrev pub lent_slice : ℕ → List ℕ
lent_slice n = replicate n 7777

-- a call with all that it is lent
pub data Call : Type 0 where
  reader : (table words : List ℕ) (allowance : ℕ) (chart : List ℕ) → Call
  tree_writer : (table words chart : List ℕ) (count root : ℕ) (tree : List ℕ) → Call
  sentence_writer : (table list text : List ℕ) → Call

-- a call, and the code, place, count and slice that it must answer. Where that is Full, `whole_chart` is the chart for which there is no
-- room: the answer does not show it, and the proof needs it to show that there are so many items. Elsewhere it is empty.
pub record Case : Type 0 where
  pub call : Call
  pub code : ℕ
  pub place : ℕ
  pub count : ℕ
  pub after : List ℕ
  pub whole_chart : List ℕ

abbrev pub Answers : Call → ℕ → ℕ → ℕ → List ℕ → Type 0
Answers (reader t w a c) = Read t w a c
Answers (tree_writer t w c n p s) = TreeWritten t w c n p s
Answers (sentence_writer t l s) = SentenceWritten t l s

abbrev pub Holds : Case → Type 0
Holds c = Answers c.call c.code c.place c.count c.after

-- a line of the table
abbrev case : Call → ℕ → ℕ → ℕ → List ℕ → List ℕ → Case
case k c p n a w = record { call = k; code = c; place = p; count = n; after = a; whole_chart = w }

abbrev pub copy_chart : List ℕ
copy_chart =
    1 ∷ 10 ∷ 2 ∷ 0 ∷ 0 ∷ 0 ∷ 0 ∷ 0 ∷ 0 ∷ 2 ∷ 0 ∷ 0
    ∷ 1 ∷ 10 ∷ 3 ∷ 0 ∷ 2 ∷ 0 ∷ 0 ∷ 0 ∷ 0 ∷ 4 ∷ 0 ∷ 0
    ∷ 2 ∷ 20 ∷ 1 ∷ 0 ∷ 0 ∷ 0 ∷ 0 ∷ 0 ∷ 0 ∷ 0 ∷ 0 ∷ 0
    ∷ 2 ∷ 21 ∷ 2 ∷ 0 ∷ 1 ∷ 0 ∷ 1 ∷ 0 ∷ 0 ∷ 2 ∷ 0 ∷ 0
    ∷ 2 ∷ 21 ∷ 2 ∷ 0 ∷ 1 ∷ 1 ∷ 2 ∷ 0 ∷ 0 ∷ 2 ∷ 0 ∷ 0
    ∷ 2 ∷ 21 ∷ 3 ∷ 0 ∷ 2 ∷ 0 ∷ 2 ∷ 0 ∷ 0 ∷ 7 ∷ 0 ∷ 0
    ∷ 2 ∷ 21 ∷ 2 ∷ 1 ∷ 2 ∷ 0 ∷ 1 ∷ 0 ∷ 0 ∷ 2 ∷ 0 ∷ 0
    ∷ 2 ∷ 21 ∷ 2 ∷ 1 ∷ 2 ∷ 1 ∷ 2 ∷ 0 ∷ 0 ∷ 2 ∷ 0 ∷ 0
    ∷ []

abbrev pub empty_chart : List ℕ
empty_chart = 1 ∷ 10 ∷ 2 ∷ 0 ∷ 0 ∷ 0 ∷ 0 ∷ 0 ∷ 0 ∷ 1 ∷ 0 ∷ 0 ∷ 2 ∷ 20 ∷ 1 ∷ 0 ∷ 0 ∷ 0 ∷ 0 ∷ 0 ∷ 0 ∷ 0 ∷ 0 ∷ 0 ∷ []

abbrev pub seven_eight_chart : List ℕ
seven_eight_chart =
    empty_chart
    ++ 2 ∷ 21 ∷ 2 ∷ 0 ∷ 1 ∷ 0 ∷ 1 ∷ 0 ∷ 0 ∷ 1 ∷ 0 ∷ 0
    ∷ 2 ∷ 21 ∷ 3 ∷ 0 ∷ 2 ∷ 0 ∷ 2 ∷ 0 ∷ 0 ∷ 4 ∷ 0 ∷ 0
    ∷ 2 ∷ 22 ∷ 2 ∷ 1 ∷ 2 ∷ 1 ∷ 2 ∷ 0 ∷ 0 ∷ 1 ∷ 0 ∷ 0
    ∷ []

abbrev pub cases : List Case
cases =
    -- 'The listing above': the whole slice of 2,000 records
    case (reader copy (7 ∷ 0 ∷ 7 ∷ 0 ∷ []) 0 (lent_slice 24000)) 0 1 8 (copy_chart ++ replicate 23904 0) []
    -- 'COPY, no words: 0 0 2'
    ∷ case (reader copy [] 0 (lent_slice 30)) 0 0 2 (empty_chart ++ replicate 6 0) []
    -- 'COPY, 7 8: 1 0 5'
    ∷ case (reader copy (7 ∷ 0 ∷ 8 ∷ 0 ∷ []) 0 (lent_slice 72)) 1 0 5 (seven_eight_chart ++ replicate 12 0) []
    -- 'AMB, no words: 1 0 0'
    ∷ case (reader amb [] 0 (lent_slice 5)) 1 0 0 (replicate 5 0) []
    -- 'AMB, 9 9 9, room 6: 0 2 6, the goal's daughters are places 0 and 4'
    ∷ case (reader amb three_nines 6 (lent_slice 100)) 0 2 6 (amb_chart ++ replicate 28 0) []
    -- 'Room 5: code 16, place 5'
    ∷ case (reader amb three_nines 5 (lent_slice 100)) 16 5 0 (replicate 100 0) amb_chart
    -- 'That goal's tree: 1 2 1 2 2'
    ∷ case (tree_writer amb three_nines amb_chart 6 2 (lent_slice 7)) 0 0 5 (1 ∷ 2 ∷ 1 ∷ 2 ∷ 2 ∷ 7777 ∷ 7777 ∷ []) []
    -- 'With tree room 4: code 19'
    ∷ case (tree_writer amb three_nines amb_chart 6 2 (lent_slice 4)) 19 4 0 (lent_slice 4) []
    -- 'List `1 2`: code 20, place 2'
    ∷ case (sentence_writer amb (1 ∷ 2 ∷ []) (lent_slice 3)) 20 2 0 (lent_slice 3) []
    -- 'COPY's first 66 bytes: code 2, place 66'
    ∷ case (reader (take 66 copy) [] 0 (lent_slice 3)) 2 66 0 (lent_slice 3) []
    -- 'One byte more than COPY: code 12, place 67'
    ∷ case (reader (copy ++ (0 ∷ [])) [] 0 (lent_slice 3)) 12 67 0 (lent_slice 3) []
    ∷ []
