-- Syntax trees (RDF 1.1 Turtle, section 6.5, with the formulas and variables of N3 Patch, and the
-- two DATA forms of SPARQL 1.1 Update). Each alternative of a production has a constructor.

-- iri ::= IRIREF | PNAME_LN | PNAME_NS
pub data Iri : Type 0 where
  iri_ref : Iri
  pname_ln : Iri
  pname_ns : Iri

-- literal ::= String (LANGTAG | '^^' iri)? | INTEGER | DECIMAL | DOUBLE | 'true' | 'false'
pub data Literal : Type 0 where
  string : Literal
  tagged_string : Literal
  typed_string : Iri → Literal
  integer : Literal
  decimal : Literal
  double : Literal
  true_word : Literal
  false_word : Literal

-- verb ::= iri | 'a' | VARIABLE
pub data Verb : Type 0 where
  predicate : Iri → Verb
  a_word : Verb
  verb_variable : Verb

mutual
  -- subject ::= iri | BLANK_NODE_LABEL | ANON | collection | VARIABLE
  pub data Subject : Type 0 where
    subject_iri : Iri → Subject
    subject_label : Subject
    subject_anon : Subject
    subject_collection : Objects → Subject
    subject_variable : Subject

  -- object ::= iri | BLANK_NODE_LABEL | ANON | collection | blankNodePropertyList | literal
  --   | VARIABLE | formula
  pub data Object : Type 0 where
    iri : Iri → Object
    label : Object
    anon : Object
    collection : Objects → Object
    property_list : PredicateObjectList → Object
    literal : Literal → Object
    variable : Object
    formula : Formula → Object

  -- object*, the inside of a collection ::= '(' object* ')', and (',' object)*
  pub data Objects : Type 0 where
    none : Objects
    more : Object → Objects → Objects

  -- predicateObjectList ::= verb object (',' object)* properties
  pub data PredicateObjectList : Type 0 where
    predicates : Verb → Object → Objects → Properties → PredicateObjectList

  -- properties ::= (';' (verb object (',' object)*)?)*
  pub data Properties : Type 0 where
    end : Properties
    empty : Properties → Properties
    also : PredicateObjectList → Properties

  -- triples ::= subject predicateObjectList | '[' predicateObjectList ']' predicateObjectList?
  pub data Triples : Type 0 where
    about : Subject → PredicateObjectList → Triples
    lone_list : PredicateObjectList → Triples
    about_list : PredicateObjectList → PredicateObjectList → Triples

  -- The inside of a formula ::= '{' (triples tail)? '}', with tail ::= ('.' (triples tail)?)?
  pub data Formula : Type 0 where
    void : Formula
    triples : Triples → Tail → Formula

  pub data Tail : Type 0 where
    last : Tail
    dot : Formula → Tail

-- statement ::= directive | triples '.'
-- directive ::= '@prefix' PNAME_NS IRIREF '.' | '@base' IRIREF '.'
--   | "PREFIX" PNAME_NS IRIREF | "BASE" IRIREF
pub data Statement : Type 0 where
  at_prefix : Statement
  at_base : Statement
  sparql_prefix : Statement
  sparql_base : Statement
  statement : Triples → Statement

-- operation ::= ("INSERT" | "DELETE") "DATA" formula
pub data Operation : Type 0 where
  insert_data : Formula → Operation
  delete_data : Formula → Operation

-- update ::= ("BASE" IRIREF | "PREFIX" PNAME_NS IRIREF)* (operation (';' update)?)?
pub data Update : Type 0 where
  no_operation : Update
  update_base : Update → Update
  update_prefix : Update → Update
  last_operation : Operation → Update
  operation_and : Operation → Update → Update
