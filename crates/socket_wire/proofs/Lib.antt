pub mod LinkCalls
