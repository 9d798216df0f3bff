pub mod PureFolder
