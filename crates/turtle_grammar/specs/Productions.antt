-- What a tree produces: the directives and the symbolic triples, in order (RDF 1.1 Turtle,
-- section 7).
--
-- A tree is walked in the order of its tokens. A bracket takes its number before its inside and is
-- the object of its triple after it; a cell takes its number before its element; the `rdf:rest` of
-- a cell is produced before the next element.
use Rattle.std.specs.Prelude.{ℕ, ◌+◌, List, [], ◌∷◌, ◌++◌}
use Rattle.turtle_grammar.specs.declared.production.Node.{Node}
use Rattle.turtle_grammar.specs.declared.production.Node.TheVariants as node
use Rattle.turtle_grammar.specs.declared.production.Within.{Within}
use Rattle.turtle_grammar.specs.declared.production.Within.TheVariants as within
use Rattle.turtle_grammar.specs.declared.production.Production.{Production}
use Rattle.turtle_grammar.specs.declared.production.Production.TheVariants.{Prefix, Base, Triple}
use Rattle.turtle_grammar.specs.Trees.{Literal, tagged_string, typed_string}
use Rattle.turtle_grammar.specs.Trees.{Subject, subject_anon}
use Rattle.turtle_grammar.specs.Trees.{subject_collection}
use Rattle.turtle_grammar.specs.Trees.{Object, anon, collection, property_list}
use Rattle.turtle_grammar.specs.Trees.{literal, formula, Objects, none, more}
use Rattle.turtle_grammar.specs.Trees.{PredicateObjectList, predicates, Properties, end, empty}
use Rattle.turtle_grammar.specs.Trees.{also, Triples, about, lone_list, about_list}
use Rattle.turtle_grammar.specs.Trees.{Formula, void, triples, Tail, last, dot}
use Rattle.turtle_grammar.specs.Trees.{Statement, at_prefix, at_base, sparql_prefix, sparql_base}
use Rattle.turtle_grammar.specs.Trees.{statement, Operation, insert_data, delete_data}
use Rattle.turtle_grammar.specs.Trees.{Update, no_operation, update_base, update_prefix}
use Rattle.turtle_grammar.specs.Trees.{last_operation, operation_and}

-- A point of the walk: how many tokens and how many unnamed nodes came before it, what a triple
-- here is part of, and what was produced before it.
pub record Point : Type 0 where
  pub at : ℕ
  pub unnamed : ℕ
  pub within : Within
  pub produced : List Production

abbrev pub start_point : Point
start_point = record { at = 0; unnamed = 0; within = within.Document; produced = [] }

-- after one more token
abbrev pub passed : Point → Point
passed m = record {
  at = m.at + 1;
  unnamed = m.unnamed;
  within = m.within;
  produced = m.produced;
}

-- the next unnamed node, and the point where it is taken
abbrev pub fresh : Point → Node
fresh m = node.Unnamed m.unnamed

abbrev pub counted : Point → Point
counted m = record {
  at = m.at;
  unnamed = m.unnamed + 1;
  within = m.within;
  produced = m.produced;
}

abbrev pub moved : Within → Point → Point
moved w m = record { at = m.at; unnamed = m.unnamed; within = w; produced = m.produced }

abbrev pub produces : Production → Point → Point
produces x m = record {
  at = m.at;
  unnamed = m.unnamed;
  within = m.within;
  produced = m.produced ++ x ∷ [];
}

-- the triple that ends at this token
abbrev pub triple_at : ℕ → Node → Node → Node → Point → Point
triple_at i s p o m = produces
    (Triple (record { subject = s; predicate = p; object = o; within = m.within; end = i })) m

-- the triple that ends at the next token
abbrev pub says : Node → Node → Node → Point → Point
says s p o m = triple_at m.at s p o m

-- the triple whose object is the term of the next token
abbrev pub says_token : Node → Node → Point → Point
says_token s p m = passed (says s p (node.Token m.at) m)

abbrev pub literal_end : Literal → Node → Node → Point → Point
literal_end tagged_string s p m =
    passed (says s p (node.Tagged m.at (m.at + 1)) (passed m))
literal_end (typed_string i) s p m =
    passed (says s p (node.Typed m.at (m.at + 1 + 1)) (passed (passed m)))
literal_end l s p m = says_token s p m

-- the node of a collection, after its `(`
abbrev pub collection_node : Objects → Point → Node
collection_node none m = node.Nil
collection_node (more o os) m = fresh m

abbrev pub subject_node : Subject → Point → Node
subject_node subject_anon m = fresh m
subject_node (subject_collection os) m = collection_node os (passed m)
subject_node s m = node.Token m.at

abbrev mutual
  pub subject_end : Subject → Point → Point
  subject_end subject_anon m = passed (counted m)
  subject_end (subject_collection os) m = passed (collection_end os (passed m))
  subject_end s m = passed m

  -- The object of this subject and predicate.
  pub object_end : Object → Node → Node → Point → Point
  object_end anon s p m = passed (says s p (fresh m) (counted m))
  object_end (collection os) s p m =
      passed (says s p (collection_node os (passed m)) (collection_end os (passed m)))
  object_end (property_list q) s p m =
      passed (says s p (fresh m) (list_end q (fresh m) (passed (counted m))))
  object_end (literal l) s p m = literal_end l s p m
  object_end (formula f) s p m =
      passed (says s p (node.Formula m.at) (moved m.within
      (formula_end f (moved (within.Formula m.at) (passed m)))))
  object_end o s p m = says_token s p m

  -- The elements of a collection, after its `(`.
  pub collection_end : Objects → Point → Point
  collection_end none m = m
  collection_end (more o os) m =
      element_end os (fresh m) (object_end o (fresh m) node.First (counted m))

  -- The elements after this cell.
  pub element_end : Objects → Node → Point → Point
  element_end none c m = says c node.Rest node.Nil m
  element_end (more o os) c m = element_end os (fresh m)
      (object_end o (fresh m) node.First (counted (says c node.Rest (fresh m) m)))

  pub other_end : Objects → Node → Node → Point → Point
  other_end none s p m = m
  other_end (more o os) s p m = other_end os s p (object_end o s p (passed m))

  pub list_end : PredicateObjectList → Node → Point → Point
  list_end (predicates v o os ps) s m = property_end ps s
      (other_end os s (node.Token m.at) (object_end o s (node.Token m.at) (passed m)))

  pub property_end : Properties → Node → Point → Point
  property_end end s m = m
  property_end (empty ps) s m = property_end ps s (passed m)
  property_end (also q) s m = list_end q s (passed m)

  pub triples_end : Triples → Point → Point
  triples_end (about s q) m = list_end q (subject_node s m) (subject_end s m)
  triples_end (lone_list q) m = passed (list_end q (fresh m) (passed (counted m)))
  triples_end (about_list q p) m =
      list_end p (fresh m) (passed (list_end q (fresh m) (passed (counted m))))

  pub formula_end : Formula → Point → Point
  formula_end void m = m
  formula_end (triples x t) m = tail_end t (triples_end x m)

  pub tail_end : Tail → Point → Point
  tail_end last m = m
  tail_end (dot f) m = formula_end f (passed m)

-- a directive's PNAME_NS and IRIREF, which are the next tokens
abbrev pub prefix_end : Point → Point
prefix_end m = passed (produces (Prefix m.at (m.at + 1)) (passed m))

abbrev pub base_end : Point → Point
base_end m = passed (produces (Base m.at) m)

abbrev pub statement_end : Statement → Point → Point
statement_end at_prefix m = passed (prefix_end (passed m))
statement_end at_base m = passed (base_end (passed m))
statement_end sparql_prefix m = prefix_end (passed m)
statement_end sparql_base m = base_end (passed m)
statement_end (statement x) m = passed (triples_end x m)

abbrev pub document_end : List Statement → Point → Point
document_end [] m = m
document_end (s ∷ ss) m = document_end ss (statement_end s m)

-- The formula after a word and DATA.
abbrev pub data_end : Within → Formula → Point → Point
data_end w f m =
    passed (moved within.Document (formula_end f (moved w (passed (passed (passed m))))))

abbrev pub operation_end : Operation → Point → Point
operation_end (insert_data f) m = data_end within.Insert f m
operation_end (delete_data f) m = data_end within.Delete f m

abbrev pub update_end : Update → Point → Point
update_end no_operation m = m
update_end (update_base u) m = update_end u (base_end (passed m))
update_end (update_prefix u) m = update_end u (prefix_end (passed m))
update_end (last_operation o) m = operation_end o m
update_end (operation_and o u) m = update_end u (passed (operation_end o m))
