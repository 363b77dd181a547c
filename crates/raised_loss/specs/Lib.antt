-- What a larger loss does to a default with one pool.
pub mod RaisedLoss
