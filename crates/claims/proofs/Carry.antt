-- What the definitions say hangs on a grammar's rules as a set: where two tables are checked alike and, if they are accepted, their
-- grammars have the same start and the same rules, in whatever order, each result that a call's definition allows for the one it allows
-- for the other. The main statements: `read-carried`, `tree-carried`, `sentence-carried`.
use Prim.Native.Nat.{ℕ, suc}
use mathlib.Core.Path.{◌≡◌, refl, sym, ap, ap₂, ◌∙◌, subst, fun_ext}
use mathlib.Core.Option.{Option, none, some}
use mathlib.Core.List.{List, [], ◌∷◌, Memᴰ as Mem}
use lib.ListN.{length}
use Rattle.meaning.specs.Table.{got, check_table}
use Rattle.meaning.specs.Decode.{several, grammar_of, words_of, check_input}
use Rattle.meaning.specs.Range.{Item, none as empty}
use Rattle.meaning.specs.Grammar.{Rule, Grammar, Tree, node, Trees, bare, and, Of, of, OfAll, of_none, of_more}
use Rattle.meaning.specs.Giving.{Makes, True}
use Rattle.meaning.specs.Valid.{Valid}
use Rattle.meaning.specs.Chart.{Known, Entry, Way, Least, Made, GivenBy, ChartOf}
use Rattle.meaning.specs.Reading.{goal, Over, Deep, Verdict, yes_at, no_goal, Read, bad_input, full, deep, read}
use Rattle.meaning.specs.TreeWriting as tree
use Rattle.meaning.specs.SentenceWriting.{walk, fault, Reads, SentenceWritten, bad_table, too_many, wrong, no_room, wrote}
use Rattle.meaning.proofs.Order.{each_map}
use Rattle.meaning.proofs.Determined.{table-accepted}
use Rattle.meaning.proofs.Walk.{named-is, found}

-- the same start and rules, each rule found under the same number
pub record SameRules (G H : Grammar) : Type 0 where
  pub start : G.start ≡ H.start
  pub to : (r : Rule) → Mem r G.rules → Mem r H.rules
  pub back : (r : Rule) → Mem r H.rules → Mem r G.rules
  pub names : tree.named G.rules ≡ tree.named H.rules

-- in valid grammars a rule is found by its number alone, whatever stands before it
found-same : {G H : Grammar} → Valid G → Valid H → ((r : Rule) → Mem r G.rules → Mem r H.rules) → ((r : Rule) → Mem r H.rules → Mem r G.rules)
    → (f : ℕ) → tree.named G.rules f ≡ tree.named H.rules f
found-same {G} {H} v v' to back f = go (tree.named G.rules f) refl (tree.named H.rules f) refl
  where
    go : (x : Option Rule) → tree.named G.rules f ≡ x → (y : Option Rule) → tree.named H.rules f ≡ y → x ≡ y
    go none p none q = refl
    go (some r) p y q = let (m, e) = named-is G.rules f p in sym (ap (tree.named H.rules) (sym e) ∙ found v' r (to r m)) ∙ q
    go none p (some r) q = let (m, e) = named-is H.rules f q in sym p ∙ ap (tree.named G.rules) (sym e) ∙ found v r (back r m)

pub same_set : {G H : Grammar} → Valid G → Valid H → G.start ≡ H.start → ((r : Rule) → Mem r G.rules → Mem r H.rules) → ((r : Rule) → Mem r H.rules → Mem r G.rules) → SameRules G H
same_set v v' start to back = record { start = start; to = to; back = back; names = fun_ext (found-same v v' to back) }

pub turned : {G H : Grammar} → SameRules G H → SameRules H G
turned s = record { start = sym s.start; to = s.back; back = s.to; names = sym s.names }

pub itself : (G : Grammar) → SameRules G G
itself G = record { start = refl; to = λ r m. m; back = λ r m. m; names = refl }

module _ {G H : Grammar} (s : SameRules G H) where
  mutual
    of-carried : (t : Tree) {A : ℕ} → Of G t A → Of H t A
    of-carried (node r ts) (of m e o) = of (s.to r m) e (all-carried ts o)

    all-carried : (ts : Trees) {As : List ℕ} → OfAll G ts As → OfAll H ts As
    all-carried bare of_none = of_none
    all-carried (and t ts) (of_more o os) = of_more (of-carried t o) (all-carried ts os)

  -- a lent chart's entries, and the nodes of a tree in it
  entry-same : (c : List ℕ) (i : ℕ) → tree.entry_at G c i ≡ tree.entry_at H c i
  unfolding tree.entry_at
  entry-same c i = rw s.names

  lent_same : (c : List ℕ) (n : ℕ) → tree.lent G c n ≡ tree.lent H c n
  unfolding tree.lent
  lent_same c n = ap (λ f. several n f suc 0) (fun_ext (entry-same c))

  nodes-same : (c : List ℕ) (count root : ℕ) → tree.nodes G c count root ≡ tree.nodes H c count root
  unfolding tree.nodes
  nodes-same c count root = rw (lent_same c count)

  -- a list of functions
  fault-same : (fs : List ℕ) → fault G fs ≡ fault H fs
  fault-same fs = ap₂ (λ look A. walk look 0 (A ∷ []) fs) s.names s.start

  reads-carried : {fs : List ℕ} {t : Tree} → Reads G fs t → Reads H fs t
  reads-carried {t = t} r = record { kind = subst (Of H t) s.start (of-carried t r.kind); told = r.told }

  module _ (ws : List ℕ) where
    makes-carried : {t : Tree} {x : Item} → Makes G ws t x → Makes H ws t x
    makes-carried {t} m = record { kind = of-carried t m.kind; spans = m.spans; counts = m.counts }

    made-carried : (x : Item) (m : ℕ) → Made G ws x m → Made H ws x m
    unfolding Made
    made-carried x m (t, k, e) = (t, makes-carried k, e)

    true-carried : (x : Item) → True G ws x → True H ws x
    unfolding True
    true-carried x (t, k) = (t, makes-carried k)

    given-carried : (f : ℕ) (ds : List Item) (x : Item) → GivenBy G ws f ds x → GivenBy H ws f ds x
    unfolding GivenBy
    given-carried f ds x (r, e, g) = (r, e, record { known = s.to r g.known; kind = g.kind; kinds = g.kinds; rows = g.rows; counts = g.counts })

    way-carried : {L : List (Known Item)} {e : Known Item} {f : ℕ} {ps : List ℕ} → Way (GivenBy G ws) L e f ps → Way (GivenBy H ws) L e f ps
    way-carried w = record { daughters = w.daughters; found = w.found; given = given-carried _ _ _ w.given; high = w.high }

    over-carried : {n : ℕ} → Over G ws n → Over H ws n
    over-carried o = record { some = o.some; apart = o.apart; true = each_map true-carried o.true; more = o.more }

    goal-same : goal G ws ≡ goal H ws
    goal-same = λ i. record { category = s.start i; one = record { from = 0; to = length ws }; two = empty; three = empty }

    verdict-carried : {C : List (Entry Item)} {c p : ℕ} → Verdict G ws C c p → Verdict H ws C c p
    verdict-carried (yes_at e) = yes_at (e ∙ ap some goal-same)
    verdict-carried (no_goal n) = no_goal (rw (← goal-same) n)

    sound-carried : {c : List ℕ} {count i : ℕ} → tree.Sound G ws c count i → tree.Sound H ws c count i
    sound-carried {c} {count} {i} o = record {
      order = o.order;
      unused = rw (← entry-same c i) o.unused;
      way = rw (← entry-same c i, ← lent_same c count) (way-carried o.way);
    }

    passes-carried : {c : List ℕ} {count : ℕ} → tree.Passes G ws c count → tree.Passes H ws c count
    passes-carried o = record { few = o.few; sound = λ i h. sound-carried (o.sound i h) }

-- what is said of all rules takes both ways
module _ {G H : Grammar} (s : SameRules G H) (ws : List ℕ) where
  least-carried : {e : Known Item} → Least (Made G ws) e → Least (Made H ws) e
  least-carried {e} l = record { made = made-carried s ws e.item e.height l.made; least = λ m h. l.least m (made-carried (turned s) ws e.item m h) }

  chart-carried : {C : List (Entry Item)} → ChartOf G ws C → ChartOf H ws C
  chart-carried c = record {
    sorted = c.sorted;
    whole = λ x m h. c.whole x m (made-carried (turned s) ws x m h);
    heights = each_map (λ e. least-carried) c.heights;
    choices = each_map (λ e k. record { way = way-carried s ws k.way; first = λ f ps w. k.first f ps (way-carried (turned s) ws w) }) c.choices;
  }

  deep-carried : Deep G ws → Deep H ws
  deep-carried d = record { known = d.known; height = least-carried d.height; passes = d.passes }

  bad-carried : {c : List ℕ} {count i : ℕ} → tree.FirstBad G ws c count i → tree.FirstBad H ws c count i
  bad-carried b = record { few = b.few; below = b.below; sound = λ j h. sound-carried s ws (b.sound j h); bad = λ o. b.bad (sound-carried (turned s) ws o) }

module _ (t u : List ℕ) (check : check_table t ≡ check_table u) (rules : check_table t ≡ got tt → SameRules (grammar_of t) (grammar_of u)) where
  input-same : (w : List ℕ) → check_input u w ≡ check_input t w
  unfolding check_input
  input-same w = rw check

  input-rules : (w : List ℕ) → check_input t w ≡ got tt → SameRules (grammar_of t) (grammar_of u)
  input-rules w e = rules (table-accepted t w e)

  pub read-carried : {w : List ℕ} {allowance : ℕ} {b : List ℕ} {c p n : ℕ} {a : List ℕ} → Read t w allowance b c p n a → Read u w allowance b c p n a
  read-carried {w} (bad_input e) = bad_input (input-same w ∙ e)
  read-carried {w} {allowance} {b} (full e o) = full (input-same w ∙ e) (over-carried (input-rules w e) (words_of w) o)
  read-carried {w} {allowance} {b} (deep e o d) = deep (input-same w ∙ e) (λ o'. o (over-carried (turned (input-rules w e)) (words_of w) o')) (deep-carried (input-rules w e) (words_of w) d)
  read-carried {w} (read e c h v) = read (input-same w ∙ e) (chart-carried (input-rules w e) (words_of w) c) h (verdict-carried (input-rules w e) (words_of w) v)

  pub tree-carried : {w c : List ℕ} {count root : ℕ} {b : List ℕ} {d p n : ℕ} {a : List ℕ} → tree.TreeWritten t w c count root b d p n a → tree.TreeWritten u w c count root b d p n a
  tree-carried {w} (tree.bad_input e) = tree.bad_input (input-same w ∙ e)
  tree-carried {w} (tree.too_many e m) = tree.too_many (input-same w ∙ e) m
  tree-carried {w} (tree.bad_record e x) = tree.bad_record (input-same w ∙ e) (bad-carried (input-rules w e) (words_of w) x)
  tree-carried {w} (tree.no_place e x l) = tree.no_place (input-same w ∙ e) (passes-carried (input-rules w e) (words_of w) x) l
  tree-carried {w} {c} {count} {root} (tree.no_room e x l r) =
      tree.no_room (input-same w ∙ e) (passes-carried (input-rules w e) (words_of w) x) l (rw (← nodes-same (input-rules w e) c count root) r)
  tree-carried {w} {c} {count} {root} (tree.wrote e x l q r) =
      tree.wrote (input-same w ∙ e) (passes-carried (input-rules w e) (words_of w) x) l (q ∙ nodes-same (input-rules w e) c count root) r

  pub sentence-carried : {l b : List ℕ} {c p n : ℕ} {a : List ℕ} → SentenceWritten t l b c p n a → SentenceWritten u l b c p n a
  sentence-carried (bad_table e) = bad_table (sym check ∙ e)
  sentence-carried (too_many e h) = too_many (sym check ∙ e) h
  sentence-carried {l} (wrong e h f) = wrong (sym check ∙ e) h (sym (fault-same (rules e) l) ∙ f)
  sentence-carried (no_room e h x k) = no_room (sym check ∙ e) h (reads-carried (rules e) x) k
  sentence-carried (wrote e h x k) = wrote (sym check ∙ e) h (reads-carried (rules e) x) k
